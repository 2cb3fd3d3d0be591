-- A reading that goes on by one byte.
use Rattle.std.proofs.Common.{◌≡◌, ℕ, ◌+◌, ◌<◌, List, length, get_or, take, Some, None, refl, ap, sym, ◌∙◌, arith, Bool, false, IsTrue}
use Rattle.std.specs.Option.{option_map}
use Rattle.std.proofs.lemmas.List.{length-take}
use Rattle.std.proofs.lemmas.List.Sums.{fold_more}
use Rattle.decimal_lengths.specs.declared.scanning.Kind.{Kind}
use Rattle.decimal_lengths.specs.declared.scanning.Phase.{Phase}
use Rattle.decimal_lengths.specs.declared.scanning.Number.{Number}
use Rattle.decimal_lengths.specs.Scanning.{kind_of, next_phase, Spelled, with_kind, State, step, start, reading, Keeps, IsCounted, ComesTo, StopsAt, StopsShort, IsComplete}

read_more : (bytes : List ℕ) (p : ℕ) (phase : Phase) (numbers : Spelled) (kind : Kind) → p < length bytes
    → reading (take p bytes) ≡ Some (record { phase = phase; numbers = numbers }) → kind ≡ kind_of (get_or bytes p 0)
    → reading (take (p + 1) bytes) ≡ option_map (λ next. record { phase = next; numbers = with_kind numbers next kind }) (next_phase phase kind)
read_more bytes p phase numbers kind within came is =
    fold_more step (Some start) bytes p 0 within
    ∙ ap (λ s. step s (get_or bytes p 0)) came
    ∙ ap (λ k. option_map {U = State} (λ next. record { phase = next; numbers = with_kind numbers next k }) (next_phase phase k)) (sym is)

pub stops_here : (bytes : List ℕ) (p : ℕ) (phase : Phase) (number : Number) (kind : Kind) → p < length bytes → ComesTo (take p bytes) phase number
    → kind ≡ kind_of (get_or bytes p 0) → next_phase phase kind ≡ None → StopsAt bytes p
stops_here bytes p phase number kind within comes is none =
    record {
      within = within;
      before = record { phase = phase; numbers = comes.numbers };
      came = comes.came;
      stopped = read_more bytes p phase comes.numbers kind within comes.came is ∙ rw none refl;
    }

pub comes_on : (bytes : List ℕ) (p : ℕ) (phase next : Phase) (number after : Number) (kind : Kind) → p < length bytes
    → ComesTo (take p bytes) phase number → kind ≡ kind_of (get_or bytes p 0) → next_phase phase kind ≡ Some next
    → ((x : Spelled) → Keeps number x → Keeps after (with_kind x next kind)) → ((n : ℕ) → IsCounted number n → IsCounted after (n + 1))
    → ComesTo (take (p + 1) bytes) next after
comes_on bytes p phase next number after kind within comes is goes keeps counted =
    let one : length (take p bytes) + 1 ≡ length (take (p + 1) bytes) = omega (arith, length-take p bytes, length-take (p + 1) bytes) in
    record {
      numbers = with_kind comes.numbers next kind;
      came = read_more bytes p phase comes.numbers kind within comes.came is ∙ rw goes refl;
      keeps = keeps comes.numbers comes.keeps;
      counted = rw one at (counted (length (take p bytes)) comes.counted);
    }

pub stops_short : (bytes : List ℕ) (p : ℕ) (phase : Phase) (number : Number) (complete : Bool) → take p bytes ≡ bytes
    → ComesTo (take p bytes) phase number → (IsComplete phase → IsTrue complete) → complete ≡ false → StopsShort bytes
stops_short bytes p phase number complete all comes says not =
    record {
      state = record { phase = phase; numbers = comes.numbers };
      came = ap reading (sym all) ∙ comes.came;
      incomplete = λ is. (let t = says is in grind arith);
    }

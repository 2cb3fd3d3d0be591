-- What is read as an outline is one.
use Rattle.std.proofs.Common.{◌≡◌, ◌+◌, ◌≤◌, ℤ, pos, neg_ℤ, ◌+ℤ◌, ◌*ℤ◌, ◌≤ℤ◌, unsigned_abs, int_le, Bool, true, false, ◌&&◌, cond, nat_le, List, [], ◌∷◌, ◌++◌, length, All, Option, Some, None, Result, Ok, Err, IfOk, refl, sym, ap, ◌∙◌, subst, arith}
use Rattle.std.proofs.lemmas.Bool.{and_parts}
use Rattle.std.proofs.lemmas.Bool.Decides.{nat_tests}
use Rattle.std.proofs.lemmas.Int.{ints, quot-rem}
use Rattle.std.proofs.lemmas.List.{length-append}
use Rattle.std.proofs.lemmas.List.Elements.{All-append, All-cons}
use Rattle.std.specs.Ordering.{int_eq}
use Rattle.std.specs.Prelude.{int_div, int_rem}
use Rattle.integer_laws.specs.Laws.Ring as Ring
use Rattle.printer_envelopes.specs.Bars.{bar, rectangle}
use Rattle.seq_model.specs.Bounds.{IsNearSpot}
use Rattle.seq_model.specs.declared.printer.Spot.{Spot}
use Rattle.toml.specs.Data.{Data, Items, no_items, item, Members, as_array, get_member}
use Rattle.printer_text.specs.declared.Key.{Key}
use Rattle.printer_text.specs.declared.values.Cause.{Cause}
use Rattle.printer_text.specs.declared.values.Cause.TheVariants as cause
use Rattle.printer_text.specs.Outlines.{IsGrain, IsOutline}
use Rattle.printer_text.specs.Values.{after, within, on_lattice, length_of, length_in, grains_in, pair_of, pair_in, are_pairs, count, pairs_behind, corners_from, corners_in, blamed, present, key_name, key_at}
use Rattle.printer_text.proofs.RangeLaws.{in_grains}

-- a second step that has an answer had a first one
record Passed {A B E : Type 0} (r : Result A E) (next : A → Result B E) (y : B) : Type 0 where
  value : A
  came : r ≡ Ok value
  went : next value ≡ Ok y

passed : {A B E : Type 0} (r : Result A E) (next : A → Result B E) (y : B) → after r next ≡ Ok y → Passed r next y
passed (Ok x) next y e = record { value = x; came = refl; went = e }
passed (Err why) next y e = absurd cc

record Kept (low high n m : ℤ) : Type 0 where
  same : n ≡ m
  from : low ≤ℤ n
  to : n ≤ℤ high

in_range : (low high n m : ℤ) (b : Bool) → (int_le low n && int_le n high) ≡ b → cond {A = Result ℤ Cause} b (Ok n) (Err cause.Range) ≡ Ok m → Kept low high n m
in_range low high n m true h e =
    let two = and_parts (int_le low n) (int_le n high) h in
    let first = two.0 in
    let last = two.1 in
    record { same = cc; from = grind (arith, ints, nat_tests); to = grind (arith, ints, nat_tests) }
in_range low high n m false h e = absurd cc

rest_none : (r : ℤ) → int_eq r (pos 0) ≡ true → r ≡ pos 0
rest_none r a = grind (arith, ints, nat_tests)

sum_zero : (a b : ℤ) → a +ℤ pos 0 ≡ b → a ≡ b
sum_zero a b e = omega (arith, ints)

whole : (unit um n : ℤ) (b : Bool) → int_eq (int_rem um unit) (pos 0) ≡ b → cond {A = Result ℤ Cause} b (Ok (int_div um unit)) (Err cause.OffGrain) ≡ Ok n → unit *ℤ n ≡ um
whole unit um n true h e =
    let none : int_rem um unit ≡ pos 0 = rest_none (int_rem um unit) h in
    let quotient : int_div um unit ≡ n = cc in
    let sum : n *ℤ unit +ℤ pos 0 ≡ um = subst (λ r. n *ℤ unit +ℤ r ≡ um) none (subst (λ q. q *ℤ unit +ℤ int_rem um unit ≡ um) quotient (quot-rem um unit)) in
    Ring.mul_comm unit n ∙ sum_zero (n *ℤ unit) um sum
whole unit um n false h e = absurd cc

-- a length of so many grains lies in the range
pub lies : (grain low high n : ℤ) (d : Data) → grains_in grain low high d ≡ Ok n → (low ≤ℤ (grain *ℤ n)) × ((grain *ℤ n) ≤ℤ high)
lies grain low high n d e =
    let a = passed (length_in low high d) (on_lattice grain) n e in
    let b = passed (length_of d) (within low high) a.value a.came in
    let k = in_range low high b.value a.value _ refl b.went in
    let w = whole grain a.value n _ refl a.went in
    let from : low ≤ℤ a.value = subst (λ x. low ≤ℤ x) k.same k.from in
    let to : a.value ≤ℤ high = subst (λ x. x ≤ℤ high) k.same k.to in
    (subst (λ x. low ≤ℤ x) (sym w) from, subst (λ x. x ≤ℤ high) (sym w) to)

near : (grain n : ℤ) → IsGrain grain → (grain *ℤ neg_ℤ (pos 100_000)) ≤ℤ (grain *ℤ n) → (grain *ℤ n) ≤ℤ (grain *ℤ pos 100_000) → unsigned_abs n ≤ 100_000
near grain n g low high =
    let r = in_grains grain (neg_ℤ (pos 100_000)) (pos 100_000) n (grain *ℤ neg_ℤ (pos 100_000)) (grain *ℤ pos 100_000) g refl refl low high in
    let from = r.0 in
    let to = r.1 in
    omega (arith, ints)

pair_near : (grain : ℤ) (spot : Spot) (d : Data) → IsGrain grain → pair_in grain (grain *ℤ neg_ℤ (pos 100_000)) (grain *ℤ pos 100_000) d ≡ Ok spot → IsNearSpot 100_000 spot
pair_near grain spot d g e =
    let low = grain *ℤ neg_ℤ (pos 100_000) in
    let high = grain *ℤ pos 100_000 in
    let two = passed (pair_of d) _ spot e in
    let x = passed (grains_in grain low high two.value.0) _ spot two.went in
    let y = passed (grains_in grain low high two.value.1) _ spot x.went in
    let same : record { x = x.value; y = y.value } ≡ spot = (let went = y.went in cc) in
    let a = lies grain low high x.value two.value.0 x.came in
    let b = lies grain low high y.value two.value.1 y.came in
    subst (IsNearSpot 100_000) same (record { x = near grain x.value g a.0 a.1; y = near grain y.value g b.0 b.1 })

none_near : All (IsNearSpot 100_000) []
none_near k d h = absurd (omega arith)

record AreRead (done spots : List Spot) (ds : Items) : Type 0 where
  number : length spots ≡ length done + count ds
  near : All (IsNearSpot 100_000) spots

pairs_near : (grain : ℤ) (done spots : List Spot) (ds : Items) → IsGrain grain → All (IsNearSpot 100_000) done
    → pairs_behind grain (grain *ℤ neg_ℤ (pos 100_000)) (grain *ℤ pos 100_000) done ds ≡ Ok spots → AreRead done spots ds
pairs_near grain done spots no_items g all e =
    let same : done ≡ spots = cc in
    record { number = number done spots same; near = subst (All (IsNearSpot 100_000)) same all }
  where
    number : (done spots : List Spot) → done ≡ spots → length spots ≡ length done + 0
    number done spots same = sym (ap length same) ∙ omega arith
pairs_near grain done spots (item d ds) g all e =
    let p = passed (pair_in grain (grain *ℤ neg_ℤ (pos 100_000)) (grain *ℤ pos 100_000) d) _ spots e in
    let one : All (IsNearSpot 100_000) (p.value ∷ []) = All-cons (IsNearSpot 100_000) p.value [] (pair_near grain p.value d g p.came) none_near in
    let rest = pairs_near grain (done ++ p.value ∷ []) spots ds g (All-append (IsNearSpot 100_000) done (p.value ∷ []) all one) p.went in
    let long = length-append done (p.value ∷ []) in
    let number = rest.number in
    record { number = omega (arith, long, number); near = rest.near }

-- the corners of an array of 1 to 32 pairs
array_near : (grain : ℤ) (spots : List Spot) (o : Option Items) → IsGrain grain
    → corners_from 1 32 grain (grain *ℤ neg_ℤ (pos 100_000)) (grain *ℤ pos 100_000) o ≡ Ok spots → IsOutline spots
array_near grain spots None g e = absurd cc
array_near grain spots (Some ds) g e = by_pairs (are_pairs ds) e
  where
    counted : (b : Bool) → (nat_le 1 (count ds) && nat_le (count ds) 32) ≡ b
        → cond {A = Result (List Spot) Cause} b (pairs_behind grain (grain *ℤ neg_ℤ (pos 100_000)) (grain *ℤ pos 100_000) [] ds) (Err cause.Range) ≡ Ok spots → IsOutline spots
    counted true h e =
        let two = and_parts (nat_le 1 (count ds)) (nat_le (count ds) 32) h in
        let first = two.0 in
        let last = two.1 in
        let some : 1 ≤ count ds = grind (arith, nat_tests) in
        let few : count ds ≤ 32 = grind (arith, nat_tests) in
        let read = pairs_near grain [] spots ds g none_near e in
        let number = read.number in
        record { some = omega (arith, number); few = omega (arith, number); near = read.near }
    counted false h e = absurd cc

    by_pairs : (b : Bool) → cond {A = Result (List Spot) Cause} b (cond {A = Result (List Spot) Cause} (nat_le 1 (count ds) && nat_le (count ds) 32) (pairs_behind grain (grain *ℤ neg_ℤ (pos 100_000)) (grain *ℤ pos 100_000) [] ds) (Err cause.Range)) (Err cause.Kind) ≡ Ok spots → IsOutline spots
    by_pairs true e = counted (nat_le 1 (count ds) && nat_le (count ds) 32) refl e
    by_pairs false e = absurd cc

unblamed : {A : Type 0} (k : Key) (r : Result A Cause) (x : A) → blamed k r ≡ Ok x → r ≡ Ok x
unblamed k (Ok y) x e = (let same : y ≡ x = cc in ap Ok same)
unblamed k (Err why) x e = absurd cc

value_near : (grain : ℤ) (spots : List Spot) (o : Option Data) → IsGrain grain
    → present (corners_in 1 32 grain (grain *ℤ neg_ℤ (pos 100_000)) (grain *ℤ pos 100_000)) o ≡ Ok spots → IsOutline spots
unfolding corners_in
value_near grain spots None g e = absurd cc
value_near grain spots (Some d) g e = array_near grain spots (as_array d) g e

pub corners_near : (k : Key) (grain : ℤ) (spots : List Spot) (t : Members) → IsGrain grain
    → key_at k (corners_in 1 32 grain (grain *ℤ neg_ℤ (pos 100_000)) (grain *ℤ pos 100_000)) t ≡ Ok spots → IsOutline spots
unfolding key_at
corners_near k grain spots t g e = value_near grain spots (get_member (key_name k) t) g (unblamed k _ spots e)

-- the corners of a bar
abbrev AreFew : ℤ → Type 0
AreFew n = unsigned_abs n ≤ 100_000

abbrev spot : ℤ → ℤ → Spot
spot x y = record { x = x; y = y }

one_near : (x y : ℤ) (rest : List Spot) → AreFew x → AreFew y → All (IsNearSpot 100_000) rest → All (IsNearSpot 100_000) (spot x y ∷ rest)
one_near x y rest a b h = All-cons (IsNearSpot 100_000) (spot x y) rest (record { x = a; y = b }) h

four_near : (west south east north : ℤ) → AreFew west → AreFew south → AreFew east → AreFew north → IsOutline (rectangle west south east north)
four_near west south east north a b c d =
    let last = one_near west north [] a d none_near in
    let third = one_near east north (spot west north ∷ []) c d last in
    let second = one_near east south (spot east north ∷ spot west north ∷ []) c b third in
    record {
      some = omega arith;
      few = omega arith;
      near = one_near west south (spot east south ∷ spot east north ∷ spot west north ∷ []) a b second;
    }

pub bar_near : (along_x : Bool) (low high width depth : ℤ) → (neg_ℤ (pos 100_000) ≤ℤ low) × (low ≤ℤ pos 100_000) → (low ≤ℤ high) × (high ≤ℤ pos 100_000) → (pos 1 ≤ℤ width) × (width ≤ℤ pos 20_000)
    → (pos 1 ≤ℤ depth) × (depth ≤ℤ pos 20_000) → IsOutline (bar along_x low high width depth)
bar_near along_x low high width depth a b c d = by along_x
  where
    first : AreFew low
    first = (let p = a.0 in let q = a.1 in omega (arith, ints))

    last : AreFew high
    last = (let o = a.0 in let p = b.0 in let q = b.1 in omega (arith, ints))

    across : (n : ℤ) → (pos 1 ≤ℤ n) × (n ≤ℤ pos 20_000) → AreFew (n +ℤ pos 1)
    across n h = (let p = h.0 in let q = h.1 in omega (arith, ints))

    back : (n : ℤ) → (pos 1 ≤ℤ n) × (n ≤ℤ pos 20_000) → AreFew (neg_ℤ (n +ℤ pos 1))
    back n h = (let p = h.0 in let q = h.1 in omega (arith, ints))

    by : (b : Bool) → IsOutline (bar b low high width depth)
    by true = four_near (neg_ℤ (width +ℤ pos 1)) low (width +ℤ pos 1) high (back width c) first (across width c) last
    by false = four_near low (neg_ℤ (depth +ℤ pos 1)) high (depth +ℤ pos 1) first (back depth d) last (across depth d)

pub if_ok : {A E : Type 0} (r : Result A E) (P Q : A → Type 0) → ((x : A) → P x → Q x) → IfOk r P → IfOk r Q
if_ok (Ok x) P Q f h = f x h
if_ok (Err e) P Q f h = h

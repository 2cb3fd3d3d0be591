use Rattle.std.proofs.Common.{◌≡◌, ◌≤◌, ℕ, ◌∷◌, [], sym, ◌∙◌, subst}
use Rattle.seq_io.specs.Views.{ShelfView, SinkView}
use Rattle.seq_words.specs.Usages.{texts}
use Rattle.seq_run.specs.Statuses.{IsOneOf}
use Rattle.seq_run.proofs.Ended.{E, at_number, calm, decided_always, ends_once, err_calm, fault_always, good_always, input_always, input_only, none_always, out_calm, silent, status_at, trial_always, words_always}
use Rattle.seq_run.proofs.top.run.Goals as goal

pub returns : goal.returns
returns g c =
    let words = texts c.args.words.now.items in
    let s : ShelfView = g.S.Shelf.shows c.args.shelf.now in
    let s' : ShelfView = g.S.Shelf.shows c.end.new.shelf in
    let e : SinkView = g.E.Sink.shows c.args.err.now in
    let e' : SinkView = g.E.Sink.shows c.end.new.err in
    let o : SinkView = g.O.Sink.shows c.args.out.now in
    let o' : SinkView = g.O.Sink.shows c.end.new.out in
    let status = c.end.result in
    let n = c.code_of.result in
    let code = c.code_of.ensures in
    let ends = c.end.ensures in
    let by : (m : ℕ) → n ≡ m → E words s s' e e' o o' (status_at m) = λ m is. at_number (E words s s' e e' o o') status n m code is ends in
    record {
      statuses = subst (λ k. k ≤ 9) (sym code) (ends_once status);
      found = λ is. by 0 is;
      good_always = λ files told asks. subst (IsOneOf (0 ∷ 3 ∷ 8 ∷ 9 ∷ [])) (sym code) (good_always words s s' e e' o o' status ends files told asks);
      none = λ is. by 1 is;
      none_always = λ files told asks. subst (IsOneOf (1 ∷ 3 ∷ 6 ∷ 8 ∷ 9 ∷ [])) (sym code) (none_always words s s' e e' o o' status ends files told asks);
      still_open = λ is. by 5 is;
      undecided = λ is. by 6 is;
      decided_always = λ files told asks. subst (IsOneOf (0 ∷ 1 ∷ 3 ∷ 8 ∷ 9 ∷ [])) (sym code) (decided_always words s s' e e' o o' status ends files told asks);
      fault = λ is. by 7 is;
      fault_always = λ files told asks. subst (IsOneOf (3 ∷ 7 ∷ 8 ∷ 9 ∷ [])) (sym code) (fault_always words s s' e e' o o' status ends files told asks);
      words = λ is. (by 2 is).0;
      words_always = λ h. subst (IsOneOf (2 ∷ 8 ∷ 9 ∷ [])) (sym code) (words_always words s s' e e' o o' status ends h);
      read = λ is. (by 3 is).0;
      input = λ is. (by 4 is).0;
      trial = λ h. subst (IsOneOf (0 ∷ 1 ∷ 6 ∷ 8 ∷ 9 ∷ [])) (sym code) (trial_always words s s' e e' o o' status ends h);
      input_always = λ h. subst (IsOneOf (3 ∷ 4 ∷ 8 ∷ 9 ∷ [])) (sym code) (input_always words s s' e e' o o' status ends h);
      input_only = λ files told is asks. input_only words s s' e e' o o' files told (by 4 is) asks;
      write = λ is. by 8 is;
      err_calm = λ not. err_calm words s s' e e' o o' status ends (λ is. not (code ∙ is));
      out_calm = λ not. out_calm words s s' e e' o o' status ends (λ is. not (code ∙ is));
      memory = λ is. (by 9 is).0;
      silent = silent words s s' e e' o o' n by;
      calm = λ read wrote. calm words s s' e e' o o' status ends (λ is. read (code ∙ is)) (λ is. wrote (code ∙ is));
    }

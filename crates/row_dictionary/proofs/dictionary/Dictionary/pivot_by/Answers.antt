use Rattle.std.proofs.Common.{◌≡◌, ◌+◌, ◌∙◌, ap, ap₂, sym, subst, arith, get_or, set, length, List, ℕ, suc}
use Rattle.integer_laws.specs.Laws.Members.{In-from_contains}
use Rattle.row_pivots.specs.Laws.Measure.{place_is}
use Rattle.row_pivots.specs.Tables.{place_of}
use Rattle.row_pivots.specs.Tables.{rising}
use Rattle.row_dictionary.specs.Scans.{number_at}
use Rattle.row_dictionary.specs.Seen.{swapped}
use Rattle.row_dictionary.specs.Seen.{Seen, HasShape}
use Rattle.seq_model.specs.Dictionaries.{WideAt}
use Rattle.row_dictionary.specs.Laws.Placing.{entry_line}
use Rattle.row_dictionary.proofs.dictionary.Dictionary.pivot_by.Goals as goal

pub pivot_at-requires-clause-r : goal.pivot_at-requires-clause-r
pivot_at-requires-clause-r c =
    let t = c.args.self.now in
    let r_is : c.basic_place-r.result ≡ place_of c.args.leaving t.basic = c.basic_place-r.ensures ∙ ap (place_of c.args.leaving) (ap (λ (t : Seen). t.basic) c.self.view_is) in
    let h = (place_is c.args.leaving t.basic (In-from_contains t.basic c.args.leaving c.requires.leaving)).0 in
    omega (arith, r_is, h)

pub pivot_at-requires-clause-s : goal.pivot_at-requires-clause-s
pivot_at-requires-clause-s c =
    let t = c.args.self.now in
    let s_is : c.free_place-s.result ≡ place_of c.args.entering t.free = c.free_place-s.ensures.is ∙ ap (place_of c.args.entering) (ap (λ (t : Seen). t.free) c.self.view_is) in
    let h = (place_is c.args.entering t.free (In-from_contains t.free c.args.entering c.requires.entering)).0 in
    omega (arith, s_is, h)

pub pivot_at-requires-clause-entry : goal.pivot_at-requires-clause-entry
pivot_at-requires-clause-entry c =
    let t = c.args.self.now in
    let r_is : c.basic_place-r.result ≡ place_of c.args.leaving t.basic = c.basic_place-r.ensures ∙ ap (place_of c.args.leaving) (ap (λ (t : Seen). t.basic) c.self.view_is) in
    let s_is : c.free_place-s.result ≡ place_of c.args.entering t.free = c.free_place-s.ensures.is ∙ ap (place_of c.args.entering) (ap (λ (t : Seen). t.free) c.self.view_is) in
    let shape : HasShape t.d t.basic t.free t.lines = subst (λ (t : Seen). HasShape t.d t.basic t.free t.lines) c.self.view_is c.self.invariant.0 in
    λ e. c.requires.entry (entry_line t.basic t.free t.lines shape.3 shape.2 c.args.leaving c.args.entering ∙ sym (ap₂ (λ r s. number_at t.lines r (suc s)) r_is s_is) ∙ e)

pub returns-clause-basic : goal.returns-clause-basic
returns-clause-basic c =
    let t = c.args.self.now in
    let r_is : c.basic_place-r.result ≡ place_of c.args.leaving t.basic = c.basic_place-r.ensures ∙ ap (place_of c.args.leaving) (ap (λ (t : Seen). t.basic) c.self.view_is) in
    let s_is : c.free_place-s.result ≡ place_of c.args.entering t.free = c.free_place-s.ensures.is ∙ ap (place_of c.args.entering) (ap (λ (t : Seen). t.free) c.self.view_is) in
    let at : get_or t.free c.free_place-s.result 0 ≡ c.args.entering = ap (λ s. get_or t.free s 0) s_is ∙ (place_is c.args.entering t.free (In-from_contains t.free c.args.entering c.requires.entering)).1 in
    let same : set t.basic c.basic_place-r.result (get_or t.free c.free_place-s.result 0) ≡ swapped t.basic c.args.leaving c.args.entering = ap₂ (λ r x. set t.basic r x) r_is at in
    λ e. c.pivot_at.ensures.basic e ∙ same

pub returns-clause-fine : goal.returns-clause-fine
returns-clause-fine c =
    let t = c.args.self.now in
    let r_is : c.basic_place-r.result ≡ place_of c.args.leaving t.basic = c.basic_place-r.ensures ∙ ap (place_of c.args.leaving) (ap (λ (t : Seen). t.basic) c.self.view_is) in
    let s_is : c.free_place-s.result ≡ place_of c.args.entering t.free = c.free_place-s.ensures.is ∙ ap (place_of c.args.entering) (ap (λ (t : Seen). t.free) c.self.view_is) in
    let at : get_or t.free c.free_place-s.result 0 ≡ c.args.entering = ap (λ s. get_or t.free s 0) s_is ∙ (place_is c.args.entering t.free (In-from_contains t.free c.args.entering c.requires.entering)).1 in
    let same : set t.basic c.basic_place-r.result (get_or t.free c.free_place-s.result 0) ≡ swapped t.basic c.args.leaving c.args.entering = ap₂ (λ r x. set t.basic r x) r_is at in
    λ e rows y h w. c.pivot_at.ensures.fine e rows y h (subst (λ (b : List ℕ). WideAt t.vars rows (rising (t.vars + length rows) b) y) (sym same) w)

pub returns-clause-wide : goal.returns-clause-wide
returns-clause-wide c =
    let t = c.args.self.now in
    let r_is : c.basic_place-r.result ≡ place_of c.args.leaving t.basic = c.basic_place-r.ensures ∙ ap (place_of c.args.leaving) (ap (λ (t : Seen). t.basic) c.self.view_is) in
    let s_is : c.free_place-s.result ≡ place_of c.args.entering t.free = c.free_place-s.ensures.is ∙ ap (place_of c.args.entering) (ap (λ (t : Seen). t.free) c.self.view_is) in
    let at : get_or t.free c.free_place-s.result 0 ≡ c.args.entering = ap (λ s. get_or t.free s 0) s_is ∙ (place_is c.args.entering t.free (In-from_contains t.free c.args.entering c.requires.entering)).1 in
    let same : set t.basic c.basic_place-r.result (get_or t.free c.free_place-s.result 0) ≡ swapped t.basic c.args.leaving c.args.entering = ap₂ (λ r x. set t.basic r x) r_is at in
    λ z e rows h. subst (λ (b : List ℕ). WideAt t.vars rows (rising (t.vars + length rows) b) z) same (c.pivot_at.ensures.wide z e rows h)

pub returns-clause-least : goal.returns-clause-least
returns-clause-least c =
    let t = c.args.self.now in
    let r_is : c.basic_place-r.result ≡ place_of c.args.leaving t.basic = c.basic_place-r.ensures ∙ ap (place_of c.args.leaving) (ap (λ (t : Seen). t.basic) c.self.view_is) in
    let s_is : c.free_place-s.result ≡ place_of c.args.entering t.free = c.free_place-s.ensures.is ∙ ap (place_of c.args.entering) (ap (λ (t : Seen). t.free) c.self.view_is) in
    let at : get_or t.free c.free_place-s.result 0 ≡ c.args.entering = ap (λ s. get_or t.free s 0) s_is ∙ (place_is c.args.entering t.free (In-from_contains t.free c.args.entering c.requires.entering)).1 in
    let same : set t.basic c.basic_place-r.result (get_or t.free c.free_place-s.result 0) ≡ swapped t.basic c.args.leaving c.args.entering = ap₂ (λ r x. set t.basic r x) r_is at in
    λ z e rows y h w. c.pivot_at.ensures.least z e rows y h (subst (λ (b : List ℕ). WideAt t.vars rows (rising (t.vars + length rows) b) y) (sym same) w)

pub returns-clause-free : goal.returns-clause-free
returns-clause-free c =
    let t = c.args.self.now in
    let r_is : c.basic_place-r.result ≡ place_of c.args.leaving t.basic = c.basic_place-r.ensures ∙ ap (place_of c.args.leaving) (ap (λ (t : Seen). t.basic) c.self.view_is) in
    let s_is : c.free_place-s.result ≡ place_of c.args.entering t.free = c.free_place-s.ensures.is ∙ ap (place_of c.args.entering) (ap (λ (t : Seen). t.free) c.self.view_is) in
    let at : get_or t.basic c.basic_place-r.result 0 ≡ c.args.leaving = ap (λ r. get_or t.basic r 0) r_is ∙ (place_is c.args.leaving t.basic (In-from_contains t.basic c.args.leaving c.requires.leaving)).1 in
    λ e. c.pivot_at.ensures.free e ∙ ap₂ (λ s x. set t.free s x) s_is at

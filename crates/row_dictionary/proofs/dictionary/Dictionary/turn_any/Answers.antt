use Rattle.std.proofs.Common.{◌≡◌, ◌∙◌, sym, arith, Some}
use Rattle.std.proofs.lemmas.Int.{ints}
use Rattle.integer_laws.specs.Laws.Members.{Contains-from_in}
use Rattle.row_pivots.specs.Tables.{place_of}
use Rattle.row_dictionary.specs.Laws.Found.{leaves_at, enters_at}
use Rattle.row_dictionary.specs.Scans.{least_leaving, least_entering}
use Rattle.row_dictionary.proofs.dictionary.Dictionary.turn_any.Goals as goal

pub pivot-requires-clause-leaving : goal.pivot-requires-clause-leaving
pivot-requires-clause-leaving c =
    let t = c.args.self.now in
    let l : least_leaving t.basic t.lines ≡ Some c.in-Some.out = sym c.leaving.ensures.is ∙ c.in-Some.is in
    Contains-from_in t.basic c.in-Some.out (leaves_at t.vars c.requires.0 t.d t.basic t.free t.lines c.requires.1 c.in-Some.out l).member

pub pivot-requires-clause-entering : goal.pivot-requires-clause-entering
pivot-requires-clause-entering c =
    let t = c.args.self.now in
    let l : least_leaving t.basic t.lines ≡ Some c.in-Some.out = sym c.leaving.ensures.is ∙ c.in-Some.is in
    let e : least_entering t.free t.lines (place_of c.in-Some.out t.basic) ≡ Some c.in-Some-entering.into = sym c.entering.ensures ∙ c.in-Some-entering.is in
    let at = leaves_at t.vars c.requires.0 t.d t.basic t.free t.lines c.requires.1 c.in-Some.out l in
    Contains-from_in t.free c.in-Some-entering.into (enters_at t.vars c.requires.0 t.d t.basic t.free t.lines c.requires.1 c.in-Some.out c.in-Some-entering.into at.member e).member

pub pivot-requires-clause-entry : goal.pivot-requires-clause-entry
pivot-requires-clause-entry c =
    let t = c.args.self.now in
    let l : least_leaving t.basic t.lines ≡ Some c.in-Some.out = sym c.leaving.ensures.is ∙ c.in-Some.is in
    let e : least_entering t.free t.lines (place_of c.in-Some.out t.basic) ≡ Some c.in-Some-entering.into = sym c.entering.ensures ∙ c.in-Some-entering.is in
    let at = leaves_at t.vars c.requires.0 t.d t.basic t.free t.lines c.requires.1 c.in-Some.out l in
    let p = (enters_at t.vars c.requires.0 t.d t.basic t.free t.lines c.requires.1 c.in-Some.out c.in-Some-entering.into at.member e).positive in
    λ z. absurd (omega (arith, ints, p, z))

pub returns-in-Ok-clause-turned : goal.returns-in-Ok-clause-turned
returns-in-Ok-clause-turned c = λ rows h. (
  sym c.leaving.ensures.is ∙ c.in-Some.is,
  sym c.entering.ensures ∙ c.in-Some-entering.is,
  c.pivot.ensures.vars,
  c.in-Ok.ensures.basic,
  c.in-Ok.ensures.held rows h,
  λ y w. c.in-Ok.ensures.fine rows y h w,
)

pub returns-in-Err-clause-turned : goal.returns-in-Err-clause-turned
returns-in-Err-clause-turned c = λ rows h. (
  c.in-Err.ensures.unchanged,
  sym c.leaving.ensures.is ∙ c.in-Some.is,
  sym c.entering.ensures ∙ c.in-Some-entering.is,
  c.in-Err.ensures.wide rows h,
  λ y w. c.in-Err.ensures.least rows y h w,
)

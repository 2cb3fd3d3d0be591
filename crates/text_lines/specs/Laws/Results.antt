-- Steps of a chain of results.
--
--   step_ok                    what a step of a chain gave, where the chain ended well
--   was_there, was_read        what `ok_or` gives, both ways
--   mapped_ok, mapped_err      what a call's result, seen through f, says of the definition's
--   answered_ok, answered_err  the same of a call that may want memory, which its error `none` says
--   handed_on                  an error that a call hands on is the definition's
--   err_is_not_ok, same_ok     a result is one thing
use Rattle.std.proofs.Common.{◌≡◌, ◌≢◌, Option, Some, None, Result, Ok, Err, refl, sym, ap, ◌∙◌}
use Rattle.std.specs.Option.{ok_or}
use Rattle.std.specs.Result.{result_map_both}
use Rattle.text_lines.specs.Results.{◌>>=◌}

pub step_ok : {A B E : Type 0} (r : Result A E) (f : A → Result B E) (y : B) → (r >>= f) ≡ Ok y → (x : A) × (r ≡ Ok x) × (f x ≡ Ok y)
step_ok (Ok x) f y e = (x, refl, e)
step_ok (Err e) f y h = absurd cc

pub was_there : {A E : Type 0} (o : Option A) (e : E) (x : A) → ok_or {E = E} o e ≡ Ok x → o ≡ Some x
was_there None e x h = absurd cc
was_there (Some y) e x h = cc

pub was_read : {A E : Type 0} {o : Option A} {x : A} (e : E) → o ≡ Some x → ok_or {E = E} o e ≡ Ok x
was_read e h = ap (λ p. ok_or p e) h

pub mapped_ok : {A B E : Type 0} (f : A → B) (r : Result A E) (y : Result B E) (x : A) → result_map_both f (λ e. e) r ≡ y → r ≡ Ok x → y ≡ Ok (f x)
mapped_ok f r y x e h = sym e ∙ ap (result_map_both f (λ e. e)) h

pub mapped_err : {A B E : Type 0} (f : A → B) (r : Result A E) (y : Result B E) (e : E) → result_map_both f (λ e. e) r ≡ y → r ≡ Err e → y ≡ Err e
mapped_err f r y e is h = sym is ∙ ap (result_map_both f (λ e. e)) h

pub answered_ok : {A B E : Type 0} (none : E) (f : A → B) (r : Result A E) (y : Result B E) (x : A) → (r ≢ Err none → result_map_both f (λ e. e) r ≡ y) → r ≡ Ok x → y ≡ Ok (f x)
answered_ok none f r y x is h = mapped_ok f r y x (is (λ k. absurd cc)) h

pub answered_err : {A B E : Type 0} (none : E) (f : A → B) (r : Result A E) (y : Result B E) (e : E) → (r ≢ Err none → result_map_both f (λ e. e) r ≡ y) → r ≡ Err e → e ≢ none → y ≡ Err e
answered_err none f r y e is h some = mapped_err f r y e (is (λ k. some (cc))) h

pub err_is_not_ok : {A E : Type 0} (e : E) (x : A) (r : Result A E) → r ≡ Err e → r ≡ Ok x → ⊥
err_is_not_ok e x r h k = absurd (cc)

pub same_ok : {A E : Type 0} (r : Result A E) (a b : A) → r ≡ Ok a → r ≡ Ok b → a ≡ b
same_ok r a b h k = cc

pub handed_on : {A B E : Type 0} (f : A → B) (r : Result A E) (y : Result B E) (e : E) → r ≡ Err e → y ≡ Err e → result_map_both f (λ e. e) r ≡ y
handed_on f r y e is h = ap (result_map_both f (λ e. e)) is ∙ sym h

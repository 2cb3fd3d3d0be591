-- One turn of the loops over layers and over objects.
use Rattle.std.proofs.Common.{◌≡◌, ℕ, suc, ◌+◌, List, [], ◌∷◌, ◌++◌, sym, ap, ap₂, ◌∙◌}
use Rattle.std.proofs.lemmas.List.{append_assoc}
use Rattle.seq_io.specs.declared.mem_file.MemFile.{MemFile}
use Rattle.seq_trial.specs.Draws.{next_state, drawn, later}
use Rattle.seq_trial.specs.Towers.{narrowed, layer_text, higher_text, tower_at, mesh_file, meshes_from}
use Rattle.seq_trial.specs.declared.tower.Size.{Size}

higher_suc : (n m : ℕ) (size : Size) (low above x s y t : ℕ) → n ≡ suc m → above ≡ low + 5 → y ≡ narrowed size x (drawn 2 s) → t ≡ next_state s
    → higher_text n size low x s ≡ layer_text size low y ++ higher_text m size above y t
higher_suc n m size low above x s y t e a f g =
    ap (λ k. higher_text k size low x s) e
    ∙ ap₂ (λ z u. layer_text size low z ++ higher_text m size (low + 5) z u) (sym f) (sym g)
    ∙ ap (λ k. layer_text size low y ++ higher_text m size k y t) (sym a)

pub one_layer : (to now all : List ℕ) (n m : ℕ) (size : Size) (low above x s y t : ℕ) → n ≡ suc m → above ≡ low + 5 → y ≡ narrowed size x (drawn 2 s) → t ≡ next_state s
    → now ≡ to ++ layer_text size low y → to ++ higher_text n size low x s ≡ all → now ++ higher_text m size above y t ≡ all
one_layer to now all n m size low above x s y t e a f g w i =
    ap (λ l. l ++ higher_text m size above y t) w
    ∙ append_assoc to (layer_text size low y) (higher_text m size above y t)
    ∙ ap (λ l. to ++ l) (sym (higher_suc n m size low above x s y t e a f g))
    ∙ i

pub one_draw : (n m s t u : ℕ) → n ≡ suc m → t ≡ next_state s → later n s ≡ u → later m t ≡ u
one_draw n m s t u e g h = ap (later m) g ∙ sym (ap (λ k. later k s) e) ∙ h

pub one_file : (files now all : List MemFile) (n m o p s t : ℕ) (file : MemFile) → n ≡ suc m → p ≡ o + 1 → file ≡ mesh_file o s → t ≡ later (3 + (tower_at s).higher) s
    → now ≡ files ++ file ∷ [] → files ++ meshes_from n o s ≡ all → now ++ meshes_from m p t ≡ all
one_file files now all n m o p s t file e a f g w i =
    ap (λ l. l ++ meshes_from m p t) w
    ∙ append_assoc files (file ∷ []) (meshes_from m p t)
    ∙ ap₂ (λ x l. files ++ x ∷ l) f (ap₂ (meshes_from m) a g)
    ∙ ap (λ l. files ++ l) (sym (ap (λ k. meshes_from k o s) e))
    ∙ i

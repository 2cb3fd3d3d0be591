-- The sides of two wedges and of two cubes with the nozzle and with the tip: each of the directions is one, and nothing else is.
use Rattle.std.proofs.Common.{◌≡◌, ℕ, ◌<◌, List, [], ◌∷◌, length, get_or, refl, ap, ap₂, sym, ◌∙◌, subst, arith, ℤ, pos, negsuc, ◌≤ℤ◌, ◌<ℤ◌, ◌⊎◌, inl, inr, true, AllPairs, lit<, unsigned_abs}
use Rattle.std.proofs.Math.Nat.{eq-one_of_dvd-one}
use Rattle.std.proofs.lemmas.Int.{ints, by_lt_z}
use Rattle.std.proofs.lemmas.List.Kept.{AllPairs-cons}
use Rattle.std.proofs.lemmas.List.Sums.{AllPass-from_list_all}
use Rattle.std.proofs.lemmas.Nat.Gcd.{dvd_refl, dvd-zero}
use Rattle.std.specs.Int.{◌∣◌}
use Rattle.std.specs.Int.Signed.{le_z}
use Rattle.std.specs.List.{list_all}
use lib.Signed.{le_z_yes, lt_z_yes}
use Rattle.integer_laws.specs.Divisors.{IsPrimitive}
use Rattle.integer_laws.specs.Members.{In}
use Rattle.integer_laws.specs.Laws.Members.{In-from_contains, Contains-from_in, All-in}
use Rattle.examples_model.specs.Cubes.{spot, dir, cube, wedge, nozzle, east, northeast, north, west, southwest, south}
use Rattle.examples_model.specs.Deciding.{EachOf, all_of, le_true}
use Rattle.examples_model.proofs.Between.{cross, no_side_between}
use Rattle.seq_model.specs.Contacts.{difference}
use Rattle.seq_model.specs.Sides.{along, Side, IsUpper, HasLesserAngle, AreSides}
use Rattle.seq_model.specs.declared.printer.Spot.{Spot}
use Rattle.seq_model.specs.declared.tree.Dir.{Dir}

-- two neighbouring directions a unit apart, and a member that is the farthest along both
record Neighbours (S : List Spot) (d e : Dir) : Type 0 where
  unit : cross d e ≡ pos 1
  corner : Spot
  member : In corner S
  most_d : (q : Spot) → In q S → along d q ≤ℤ along d corner
  most_e : (q : Spot) → In q S → along e q ≤ℤ along e corner

bounds : (S : List Spot) (d : Dir) (v : Spot) → list_all (λ q. le_z (along d q) (along d v)) S ≡ true → (q : Spot) → In q S → along d q ≤ℤ along d v
bounds S d v e q i = All-in (λ q. along d q ≤ℤ along d v) S q (λ k r l. le_true _ _ (AllPass-from_list_all (λ q. le_z (along d q) (along d v)) S e k r l)) i

neighbours : (S : List Spot) (d e : Dir) (v : Spot) (k : ℕ) → k < length S → get_or S k v ≡ v → cross d e ≡ pos 1
    → list_all (λ q. le_z (along d q) (along d v)) S ≡ true → list_all (λ q. le_z (along e q) (along e v)) S ≡ true → Neighbours S d e
neighbours S d e v k l at unit md me = record { unit = unit; corner = v; member = In-from_contains S v (k, l, at); most_d = bounds S d v md; most_e = bounds S e v me }

between : (S : List Spot) (d e t : Dir) → Neighbours S d e → Side S t → pos 0 <ℤ cross t e → pos 0 <ℤ cross d t → ⊥
between S d e t n s left right = no_side_between S t d e n.corner n.unit left right n.member n.most_d n.most_e s

-- ---- where a direction lies
by_three : {P : Type 0} (a b : ℤ) → (a <ℤ b → P) → (a ≡ b → P) → (b <ℤ a → P) → P
by_three a b less same more = by_lt_z a b less (λ h. by_lt_z b a more (λ k. same (omega (arith, ints, h, k))))

size_one : (x : ℤ) → unsigned_abs x ≡ 1 → (x ≡ pos 1) ⊎ (x ≡ negsuc 0)
size_one (pos n) e = inl (ap pos e)
size_one (negsuc n) e = inr (ap negsuc (omega (arith, e)))

-- ---- the list of the directions
-- a direction along an axis or a diagonal that no number divides is a unit
along_x : (t : Dir) → IsPrimitive t.x t.y → t.y ≡ pos 0 → (t ≡ east) ⊎ (t ≡ west)
along_x t prim zero = named (size_one t.x (prim (unsigned_abs t.x) (dvd_refl (unsigned_abs t.x)) (subst (λ y. unsigned_abs t.x ∣ unsigned_abs y) (sym zero) (dvd-zero (unsigned_abs t.x)))))
  where
    named : ((t.x ≡ pos 1) ⊎ (t.x ≡ negsuc 0)) → (t ≡ east) ⊎ (t ≡ west)
    named (inl e) = inl (ap₂ dir e zero)
    named (inr e) = inr (ap₂ dir e zero)

along_y : (t : Dir) → IsPrimitive t.x t.y → t.x ≡ pos 0 → (t ≡ north) ⊎ (t ≡ south)
along_y t prim zero = named (size_one t.y (prim (unsigned_abs t.y) (subst (λ x. unsigned_abs t.y ∣ unsigned_abs x) (sym zero) (dvd-zero (unsigned_abs t.y))) (dvd_refl (unsigned_abs t.y))))
  where
    named : ((t.y ≡ pos 1) ⊎ (t.y ≡ negsuc 0)) → (t ≡ north) ⊎ (t ≡ south)
    named (inl e) = inl (ap₂ dir zero e)
    named (inr e) = inr (ap₂ dir zero e)

along_diagonal : (t : Dir) → IsPrimitive t.x t.y → t.x ≡ t.y → (t ≡ northeast) ⊎ (t ≡ southwest)
along_diagonal t prim same = named (size_one t.x (prim (unsigned_abs t.x) (dvd_refl (unsigned_abs t.x)) (subst (λ y. unsigned_abs t.x ∣ unsigned_abs y) same (dvd_refl (unsigned_abs t.x)))))
  where
    named : ((t.x ≡ pos 1) ⊎ (t.x ≡ negsuc 0)) → (t ≡ northeast) ⊎ (t ≡ southwest)
    named (inl e) = inl (ap₂ dir e (sym same ∙ e))
    named (inr e) = inr (ap₂ dir e (sym same ∙ e))

-- ---- two wedges
abbrev pub wedge_points : List Spot
wedge_points = difference wedge wedge nozzle

wedge_east_northeast : Neighbours wedge_points east northeast
wedge_east_northeast = neighbours wedge_points east northeast (spot (pos 24) (pos 4)) 40 (lit< tt) refl refl refl refl

wedge_northeast_north : Neighbours wedge_points northeast north
wedge_northeast_north = neighbours wedge_points northeast north (spot (pos 4) (pos 24)) 60 (lit< tt) refl refl refl refl

wedge_north_west : Neighbours wedge_points north west
wedge_north_west = neighbours wedge_points north west (spot (negsuc 23) (pos 24)) 85 (lit< tt) refl refl refl refl

wedge_west_southwest : Neighbours wedge_points west southwest
wedge_west_southwest = neighbours wedge_points west southwest (spot (negsuc 23) (negsuc 3)) 10 (lit< tt) refl refl refl refl

wedge_southwest_south : Neighbours wedge_points southwest south
wedge_southwest_south = neighbours wedge_points southwest south (spot (negsuc 3) (negsuc 23)) 14 (lit< tt) refl refl refl refl

wedge_south_east : Neighbours wedge_points south east
wedge_south_east = neighbours wedge_points south east (spot (pos 24) (negsuc 23)) 39 (lit< tt) refl refl refl refl

wedge_east : Side wedge_points east
wedge_east = record { primitive = λ n h k. eq-one_of_dvd-one h; a = spot (pos 24) (pos 2); b = spot (pos 24) (negsuc 1); a_in = (20, lit< tt, refl); b_in = (23, lit< tt, refl); apart = λ e. absurd (omega (arith, ints, ap (λ (s : Spot). s.y) e)); at_a = refl; at_b = refl }

wedge_northeast : Side wedge_points northeast
wedge_northeast = record { primitive = λ n h k. eq-one_of_dvd-one h; a = spot (pos 24) (pos 4); b = spot (pos 4) (pos 24); a_in = (40, lit< tt, refl); b_in = (60, lit< tt, refl); apart = λ e. absurd (omega (arith, ints, ap (λ (s : Spot). s.x) e)); at_a = refl; at_b = refl }

wedge_north : Side wedge_points north
wedge_north = record { primitive = λ n h k. eq-one_of_dvd-one k; a = spot (pos 4) (pos 24); b = spot (pos 0) (pos 24); a_in = (60, lit< tt, refl); b_in = (61, lit< tt, refl); apart = λ e. absurd (omega (arith, ints, ap (λ (s : Spot). s.x) e)); at_a = refl; at_b = refl }

wedge_west : Side wedge_points west
wedge_west = record { primitive = λ n h k. eq-one_of_dvd-one h; a = spot (negsuc 23) (pos 2); b = spot (negsuc 23) (negsuc 1); a_in = (5, lit< tt, refl); b_in = (6, lit< tt, refl); apart = λ e. absurd (omega (arith, ints, ap (λ (s : Spot). s.y) e)); at_a = refl; at_b = refl }

wedge_southwest : Side wedge_points southwest
wedge_southwest = record { primitive = λ n h k. eq-one_of_dvd-one h; a = spot (negsuc 23) (negsuc 3); b = spot (negsuc 3) (negsuc 23); a_in = (10, lit< tt, refl); b_in = (14, lit< tt, refl); apart = λ e. absurd (omega (arith, ints, ap (λ (s : Spot). s.x) e)); at_a = refl; at_b = refl }

wedge_south : Side wedge_points south
wedge_south = record { primitive = λ n h k. eq-one_of_dvd-one k; a = spot (negsuc 3) (negsuc 23); b = spot (pos 0) (negsuc 23); a_in = (14, lit< tt, refl); b_in = (15, lit< tt, refl); apart = λ e. absurd (omega (arith, ints, ap (λ (s : Spot). s.x) e)); at_a = refl; at_b = refl }

-- six sides along the axes and one diagonal
record SixSides (S : List Spot) : Type 0 where
  side_east : Side S east
  side_northeast : Side S northeast
  side_north : Side S north
  side_west : Side S west
  side_southwest : Side S southwest
  side_south : Side S south
  east_northeast : Neighbours S east northeast
  northeast_north : Neighbours S northeast north
  north_west : Neighbours S north west
  west_southwest : Neighbours S west southwest
  southwest_south : Neighbours S southwest south
  south_east : Neighbours S south east

wedge_six : SixSides wedge_points
wedge_six = record { side_east = wedge_east; side_northeast = wedge_northeast; side_north = wedge_north; side_west = wedge_west; side_southwest = wedge_southwest; side_south = wedge_south; east_northeast = wedge_east_northeast; northeast_north = wedge_northeast_north; north_west = wedge_north_west; west_southwest = wedge_west_southwest; southwest_south = wedge_southwest_south; south_east = wedge_south_east }

six_listed : (S : List Spot) → SixSides S → (t : Dir) → In t (east ∷ northeast ∷ north ∷ west ∷ southwest ∷ south ∷ []) → Side S t
six_listed S f t (inl e) = subst (Side S) (sym e) f.side_east
six_listed S f t (inr (inl e)) = subst (Side S) (sym e) f.side_northeast
six_listed S f t (inr (inr (inl e))) = subst (Side S) (sym e) f.side_north
six_listed S f t (inr (inr (inr (inl e)))) = subst (Side S) (sym e) f.side_west
six_listed S f t (inr (inr (inr (inr (inl e))))) = subst (Side S) (sym e) f.side_southwest
six_listed S f t (inr (inr (inr (inr (inr (inl e)))))) = subst (Side S) (sym e) f.side_south
six_listed S f t (inr (inr (inr (inr (inr (inr i)))))) = absurd i

-- ---- two wedges by the tip's one point
abbrev pub wedge_tip_points : List Spot
wedge_tip_points = difference wedge wedge (spot (pos 0) (pos 0) ∷ [])

wedge_tip_six : SixSides wedge_tip_points
wedge_tip_six = record {
  side_east = record { primitive = λ n h k. eq-one_of_dvd-one h; a = spot (pos 22) (pos 0); b = spot (pos 22) (pos 2); a_in = (5, lit< tt, refl); b_in = (10, lit< tt, refl); apart = λ e. absurd (omega (arith, ints, ap (λ (s : Spot). s.y) e)); at_a = refl; at_b = refl };
  side_northeast = record { primitive = λ n h k. eq-one_of_dvd-one h; a = spot (pos 22) (pos 2); b = spot (pos 2) (pos 22); a_in = (10, lit< tt, refl); b_in = (15, lit< tt, refl); apart = λ e. absurd (omega (arith, ints, ap (λ (s : Spot). s.x) e)); at_a = refl; at_b = refl };
  side_north = record { primitive = λ n h k. eq-one_of_dvd-one k; a = spot (pos 2) (pos 22); b = spot (pos 0) (pos 22); a_in = (15, lit< tt, refl); b_in = (20, lit< tt, refl); apart = λ e. absurd (omega (arith, ints, ap (λ (s : Spot). s.x) e)); at_a = refl; at_b = refl };
  side_west = record { primitive = λ n h k. eq-one_of_dvd-one h; a = spot (negsuc 21) (pos 0); b = spot (negsuc 21) (negsuc 1); a_in = (1, lit< tt, refl); b_in = (2, lit< tt, refl); apart = λ e. absurd (omega (arith, ints, ap (λ (s : Spot). s.y) e)); at_a = refl; at_b = refl };
  side_southwest = record { primitive = λ n h k. eq-one_of_dvd-one h; a = spot (negsuc 21) (negsuc 1); b = spot (negsuc 1) (negsuc 21); a_in = (2, lit< tt, refl); b_in = (3, lit< tt, refl); apart = λ e. absurd (omega (arith, ints, ap (λ (s : Spot). s.x) e)); at_a = refl; at_b = refl };
  side_south = record { primitive = λ n h k. eq-one_of_dvd-one k; a = spot (negsuc 1) (negsuc 21); b = spot (pos 0) (negsuc 21); a_in = (3, lit< tt, refl); b_in = (4, lit< tt, refl); apart = λ e. absurd (omega (arith, ints, ap (λ (s : Spot). s.x) e)); at_a = refl; at_b = refl };
  east_northeast = neighbours wedge_tip_points east northeast (spot (pos 22) (pos 2)) 10 (lit< tt) refl refl refl refl;
  northeast_north = neighbours wedge_tip_points northeast north (spot (pos 2) (pos 22)) 15 (lit< tt) refl refl refl refl;
  north_west = neighbours wedge_tip_points north west (spot (negsuc 21) (pos 22)) 21 (lit< tt) refl refl refl refl;
  west_southwest = neighbours wedge_tip_points west southwest (spot (negsuc 21) (negsuc 1)) 2 (lit< tt) refl refl refl refl;
  southwest_south = neighbours wedge_tip_points southwest south (spot (negsuc 1) (negsuc 21)) 3 (lit< tt) refl refl refl refl;
  south_east = neighbours wedge_tip_points south east (spot (pos 22) (negsuc 21)) 9 (lit< tt) refl refl refl refl;
}

-- ---- two cubes
abbrev pub cube_points : List Spot
cube_points = difference cube cube nozzle

cube_east_north : Neighbours cube_points east north
cube_east_north = neighbours cube_points east north (spot (pos 24) (pos 24)) 32 (lit< tt) refl refl refl refl

cube_north_west : Neighbours cube_points north west
cube_north_west = neighbours cube_points north west (spot (negsuc 23) (pos 24)) 53 (lit< tt) refl refl refl refl

cube_west_south : Neighbours cube_points west south
cube_west_south = neighbours cube_points west south (spot (negsuc 23) (negsuc 23)) 10 (lit< tt) refl refl refl refl

cube_south_east : Neighbours cube_points south east
cube_south_east = neighbours cube_points south east (spot (pos 24) (negsuc 23)) 31 (lit< tt) refl refl refl refl

cube_east : Side cube_points east
cube_east = record { primitive = λ n h k. eq-one_of_dvd-one h; a = spot (pos 24) (pos 2); b = spot (pos 24) (negsuc 1); a_in = (16, lit< tt, refl); b_in = (19, lit< tt, refl); apart = λ e. absurd (omega (arith, ints, ap (λ (s : Spot). s.y) e)); at_a = refl; at_b = refl }

cube_north : Side cube_points north
cube_north = record { primitive = λ n h k. eq-one_of_dvd-one k; a = spot (pos 24) (pos 24); b = spot (pos 20) (pos 24); a_in = (32, lit< tt, refl); b_in = (33, lit< tt, refl); apart = λ e. absurd (omega (arith, ints, ap (λ (s : Spot). s.x) e)); at_a = refl; at_b = refl }

cube_west : Side cube_points west
cube_west = record { primitive = λ n h k. eq-one_of_dvd-one h; a = spot (negsuc 23) (pos 2); b = spot (negsuc 23) (negsuc 1); a_in = (5, lit< tt, refl); b_in = (6, lit< tt, refl); apart = λ e. absurd (omega (arith, ints, ap (λ (s : Spot). s.y) e)); at_a = refl; at_b = refl }

cube_south : Side cube_points south
cube_south = record { primitive = λ n h k. eq-one_of_dvd-one k; a = spot (negsuc 23) (negsuc 23); b = spot (negsuc 19) (negsuc 23); a_in = (10, lit< tt, refl); b_in = (11, lit< tt, refl); apart = λ e. absurd (omega (arith, ints, ap (λ (s : Spot). s.x) e)); at_a = refl; at_b = refl }

-- four sides along the axes
record FourSides (S : List Spot) : Type 0 where
  side_east : Side S east
  side_north : Side S north
  side_west : Side S west
  side_south : Side S south
  east_north : Neighbours S east north
  north_west : Neighbours S north west
  west_south : Neighbours S west south
  south_east : Neighbours S south east

cube_four : FourSides cube_points
cube_four = record { side_east = cube_east; side_north = cube_north; side_west = cube_west; side_south = cube_south; east_north = cube_east_north; north_west = cube_north_west; west_south = cube_west_south; south_east = cube_south_east }

four_listed : (S : List Spot) → FourSides S → (t : Dir) → In t (east ∷ north ∷ west ∷ south ∷ []) → Side S t
four_listed S f t (inl e) = subst (Side S) (sym e) f.side_east
four_listed S f t (inr (inl e)) = subst (Side S) (sym e) f.side_north
four_listed S f t (inr (inr (inl e))) = subst (Side S) (sym e) f.side_west
four_listed S f t (inr (inr (inr (inl e)))) = subst (Side S) (sym e) f.side_south
four_listed S f t (inr (inr (inr (inr i)))) = absurd i

-- ---- two cubes by the tip's one point
abbrev pub tip_points : List Spot
tip_points = difference cube cube (spot (pos 0) (pos 0) ∷ [])

tip_four : FourSides tip_points
tip_four = record {
  side_east = record { primitive = λ n h k. eq-one_of_dvd-one h; a = spot (pos 22) (pos 0); b = spot (pos 22) (pos 22); a_in = (4, lit< tt, refl); b_in = (8, lit< tt, refl); apart = λ e. absurd (omega (arith, ints, ap (λ (s : Spot). s.y) e)); at_a = refl; at_b = refl };
  side_north = record { primitive = λ n h k. eq-one_of_dvd-one k; a = spot (pos 22) (pos 22); b = spot (pos 0) (pos 22); a_in = (8, lit< tt, refl); b_in = (9, lit< tt, refl); apart = λ e. absurd (omega (arith, ints, ap (λ (s : Spot). s.x) e)); at_a = refl; at_b = refl };
  side_west = record { primitive = λ n h k. eq-one_of_dvd-one h; a = spot (negsuc 21) (pos 0); b = spot (negsuc 21) (negsuc 21); a_in = (1, lit< tt, refl); b_in = (2, lit< tt, refl); apart = λ e. absurd (omega (arith, ints, ap (λ (s : Spot). s.y) e)); at_a = refl; at_b = refl };
  side_south = record { primitive = λ n h k. eq-one_of_dvd-one k; a = spot (negsuc 21) (negsuc 21); b = spot (pos 0) (negsuc 21); a_in = (2, lit< tt, refl); b_in = (3, lit< tt, refl); apart = λ e. absurd (omega (arith, ints, ap (λ (s : Spot). s.x) e)); at_a = refl; at_b = refl };
  east_north = neighbours tip_points east north (spot (pos 22) (pos 22)) 8 (lit< tt) refl refl refl refl;
  north_west = neighbours tip_points north west (spot (negsuc 21) (pos 22)) 13 (lit< tt) refl refl refl refl;
  west_south = neighbours tip_points west south (spot (negsuc 21) (negsuc 21)) 2 (lit< tt) refl refl refl refl;
  south_east = neighbours tip_points south east (spot (pos 22) (negsuc 21)) 7 (lit< tt) refl refl refl refl;
}

-- a direction that is no listed one lies strictly between two neighbours, or is no side at all
six_only : (S : List Spot) → SixSides S → (t : Dir) → Side S t → In t (east ∷ northeast ∷ north ∷ west ∷ southwest ∷ south ∷ [])
six_only S f t s = by_three (pos 0) t.y upper level lower
  where
    on_x : ((t ≡ east) ⊎ (t ≡ west)) → In t (east ∷ northeast ∷ north ∷ west ∷ southwest ∷ south ∷ [])
    on_x (inl e) = inl e
    on_x (inr e) = inr (inr (inr (inl e)))

    on_y : ((t ≡ north) ⊎ (t ≡ south)) → In t (east ∷ northeast ∷ north ∷ west ∷ southwest ∷ south ∷ [])
    on_y (inl e) = inr (inr (inl e))
    on_y (inr e) = inr (inr (inr (inr (inr (inl e)))))

    on_diagonal : ((t ≡ northeast) ⊎ (t ≡ southwest)) → In t (east ∷ northeast ∷ north ∷ west ∷ southwest ∷ south ∷ [])
    on_diagonal (inl e) = inr (inl e)
    on_diagonal (inr e) = inr (inr (inr (inr (inl e))))

    upper : pos 0 <ℤ t.y → In t (east ∷ northeast ∷ north ∷ west ∷ southwest ∷ south ∷ [])
    upper up = by_three t.x (pos 0)
        (λ left. absurd (between S north west t f.north_west s (omega (arith, ints, up, left)) (omega (arith, ints, up, left))))
        (λ zero. on_y (along_y t s.primitive zero))
        (λ right. by_three t.y t.x
        (λ low. absurd (between S east northeast t f.east_northeast s (omega (arith, ints, up, low)) (omega (arith, ints, up, low))))
        (λ same. on_diagonal (along_diagonal t s.primitive (sym same)))
        (λ high. absurd (between S northeast north t f.northeast_north s (omega (arith, ints, right, high)) (omega (arith, ints, right, high)))))

    level : pos 0 ≡ t.y → In t (east ∷ northeast ∷ north ∷ west ∷ southwest ∷ south ∷ [])
    level zero = on_x (along_x t s.primitive (sym zero))

    lower : t.y <ℤ pos 0 → In t (east ∷ northeast ∷ north ∷ west ∷ southwest ∷ south ∷ [])
    lower down = by_three t.x (pos 0)
        (λ left. by_three t.x t.y
        (λ low. absurd (between S west southwest t f.west_southwest s (omega (arith, ints, down, low)) (omega (arith, ints, down, low))))
        (λ same. on_diagonal (along_diagonal t s.primitive same))
        (λ high. absurd (between S southwest south t f.southwest_south s (omega (arith, ints, left, high)) (omega (arith, ints, left, high)))))
        (λ zero. on_y (along_y t s.primitive zero))
        (λ right. absurd (between S south east t f.south_east s (omega (arith, ints, down, right)) (omega (arith, ints, down, right))))

four_only : (S : List Spot) → FourSides S → (t : Dir) → Side S t → In t (east ∷ north ∷ west ∷ south ∷ [])
four_only S f t s = by_three (pos 0) t.y upper level lower
  where
    on_x : ((t ≡ east) ⊎ (t ≡ west)) → In t (east ∷ north ∷ west ∷ south ∷ [])
    on_x (inl e) = inl e
    on_x (inr e) = inr (inr (inl e))

    on_y : ((t ≡ north) ⊎ (t ≡ south)) → In t (east ∷ north ∷ west ∷ south ∷ [])
    on_y (inl e) = inr (inl e)
    on_y (inr e) = inr (inr (inr (inl e)))

    upper : pos 0 <ℤ t.y → In t (east ∷ north ∷ west ∷ south ∷ [])
    upper up = by_three t.x (pos 0)
        (λ left. absurd (between S north west t f.north_west s (omega (arith, ints, up, left)) (omega (arith, ints, up, left))))
        (λ zero. on_y (along_y t s.primitive zero))
        (λ right. absurd (between S east north t f.east_north s (omega (arith, ints, up, right)) (omega (arith, ints, up, right))))

    level : pos 0 ≡ t.y → In t (east ∷ north ∷ west ∷ south ∷ [])
    level zero = on_x (along_x t s.primitive (sym zero))

    lower : t.y <ℤ pos 0 → In t (east ∷ north ∷ west ∷ south ∷ [])
    lower down = by_three t.x (pos 0)
        (λ left. absurd (between S west south t f.west_south s (omega (arith, ints, down, left)) (omega (arith, ints, down, left))))
        (λ zero. on_y (along_y t s.primitive zero))
        (λ right. absurd (between S south east t f.south_east s (omega (arith, ints, down, right)) (omega (arith, ints, down, right))))

-- ---- by angle
-- two of the same half
later_upper : (d e : Dir) → IsUpper d → IsUpper e → pos 0 <ℤ cross d e → HasLesserAngle d e
later_upper d e u v c = inr ((λ _. v, λ _. u), c)

later_lower : (d e : Dir) → (IsUpper d → ⊥) → (IsUpper e → ⊥) → pos 0 <ℤ cross d e → HasLesserAngle d e
later_lower d e u v c = inr ((λ h. absurd (u h), λ h. absurd (v h)), c)

other_half : (d e : Dir) → IsUpper d → (IsUpper e → ⊥) → HasLesserAngle d e
other_half d e u v = inl (u, v)

east_upper : IsUpper east
east_upper = inr (refl, lt_z_yes tt)

northeast_upper : IsUpper northeast
northeast_upper = inl (lt_z_yes tt)

north_upper : IsUpper north
north_upper = inl (lt_z_yes tt)

not_upper : (d : Dir) → d.y ≤ℤ pos 0 → d.x ≤ℤ pos 0 → IsUpper d → ⊥
not_upper d low left (inl u) = absurd (omega (arith, ints, low, u))
not_upper d low left (inr u) = absurd (omega (arith, ints, left, u.1))

west_lower : IsUpper west → ⊥
west_lower = not_upper west (le_z_yes tt) (le_z_yes tt)

southwest_lower : IsUpper southwest → ⊥
southwest_lower = not_upper southwest (le_z_yes tt) (le_z_yes tt)

south_lower : IsUpper south → ⊥
south_lower = not_upper south (le_z_yes tt) (le_z_yes tt)

abbrev EachPair : {X : Type 0} → (X → X → Type 0) → List X → Type 0
EachPair R [] = Unit {0}
EachPair R (x ∷ xs) = EachOf (R x) xs × EachPair R xs

pairs_of : {X : Type 0} (R : X → X → Type 0) (xs : List X) → EachPair R xs → AllPairs R xs
pairs_of R [] e = λ i j d l m. absurd (omega (arith, m))
pairs_of R (x ∷ xs) e = AllPairs-cons R x xs (all_of (R x) xs e.0) (pairs_of R xs e.1)

six_sides_of : (S : List Spot) → SixSides S → AreSides S (east ∷ northeast ∷ north ∷ west ∷ southwest ∷ south ∷ [])
six_sides_of S f = record {
  each = λ t. (λ c. six_listed S f t (In-from_contains (east ∷ northeast ∷ north ∷ west ∷ southwest ∷ south ∷ []) t c), λ s. Contains-from_in (east ∷ northeast ∷ north ∷ west ∷ southwest ∷ south ∷ []) t (six_only S f t s));
  order = pairs_of HasLesserAngle (east ∷ northeast ∷ north ∷ west ∷ southwest ∷ south ∷ []) ((later_upper east northeast east_upper northeast_upper (lt_z_yes tt), (later_upper east north east_upper north_upper (lt_z_yes tt), (other_half east west east_upper west_lower, (other_half east southwest east_upper southwest_lower, (other_half east south east_upper south_lower, tt))))), ((later_upper northeast north northeast_upper north_upper (lt_z_yes tt), (other_half northeast west northeast_upper west_lower, (other_half northeast southwest northeast_upper southwest_lower, (other_half northeast south northeast_upper south_lower, tt)))), ((other_half north west north_upper west_lower, (other_half north southwest north_upper southwest_lower, (other_half north south north_upper south_lower, tt))), ((later_lower west southwest west_lower southwest_lower (lt_z_yes tt), (later_lower west south west_lower south_lower (lt_z_yes tt), tt)), ((later_lower southwest south southwest_lower south_lower (lt_z_yes tt), tt), (tt, tt))))));
}

four_sides_of : (S : List Spot) → FourSides S → AreSides S (east ∷ north ∷ west ∷ south ∷ [])
four_sides_of S f = record {
  each = λ t. (λ c. four_listed S f t (In-from_contains (east ∷ north ∷ west ∷ south ∷ []) t c), λ s. Contains-from_in (east ∷ north ∷ west ∷ south ∷ []) t (four_only S f t s));
  order = pairs_of HasLesserAngle (east ∷ north ∷ west ∷ south ∷ []) ((later_upper east north east_upper north_upper (lt_z_yes tt), (other_half east west east_upper west_lower, (other_half east south east_upper south_lower, tt))), ((other_half north west north_upper west_lower, (other_half north south north_upper south_lower, tt)), ((later_lower west south west_lower south_lower (lt_z_yes tt), tt), (tt, tt))));
}

pub wedge_sides : AreSides wedge_points (east ∷ northeast ∷ north ∷ west ∷ southwest ∷ south ∷ [])
wedge_sides = six_sides_of wedge_points wedge_six

pub wedge_tip_sides : AreSides wedge_tip_points (east ∷ northeast ∷ north ∷ west ∷ southwest ∷ south ∷ [])
wedge_tip_sides = six_sides_of wedge_tip_points wedge_tip_six

pub cube_sides : AreSides cube_points (east ∷ north ∷ west ∷ south ∷ [])
cube_sides = four_sides_of cube_points cube_four

pub tip_sides : AreSides tip_points (east ∷ north ∷ west ∷ south ∷ [])
tip_sides = four_sides_of tip_points tip_four

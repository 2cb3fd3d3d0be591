-- The made description is read.
--
--   made_tree     the tree of its text
--   described     it states the made printer
use Rattle.std.proofs.Common.{◌≡◌, ℤ, pos, neg_ℤ, codes, refl, Some, Ok}
use Rattle.std.specs.Char.{encode_utf8}
use Rattle.std.specs.Prelude.{IsUtf8}
use Rattle.printer_text.specs.Printers.{DescribedBy, description_in, outline_in, part_in, top_in}
use Rattle.printer_text.specs.Values.{corners_in, key_at, key_if, name_in, tables_in}
use Rattle.seq_trial.specs.Towers.{printer_text}
use Rattle.toml.proofs.OnLiterals.{toml_on_literals}
use Rattle.toml.specs.Data.{Data, array, integer, string, table, item, no_items, Members, member, no_members}
use Rattle.toml.specs.Parse.{parse_document}
use Rattle.trial_laws.specs.Made.{made_description}

abbrev pair : ℤ → ℤ → Data
pair x y = array (item (integer x) (item (integer y) no_items))

abbrev nozzle_table : Members
nozzle_table =
    member (codes "corners") (array (item (pair (neg_ℤ (pos 2)) (neg_ℤ (pos 2))) (item (pair (pos 2) (neg_ℤ (pos 2))) (item (pair (pos 2) (pos 2)) (item (pair (neg_ℤ (pos 2)) (pos 2)) no_items)))))
    (member (codes "from") (integer (pos 0)) (member (codes "name") (string (codes "nozzle")) no_members))

abbrev gantry_table : Members
gantry_table =
    member (codes "bar") (string (codes "x")) (member (codes "from") (integer (pos 20)) (member (codes "high") (integer (pos 10))
    (member (codes "low") (integer (neg_ℤ (pos 10))) (member (codes "name") (string (codes "gantry")) no_members))))

abbrev made_tree : Members
made_tree =
    member (codes "format") (integer (pos 1)) (member (codes "grain") (integer (pos 1)) (member (codes "grid") (integer (pos 100)) (member (codes "margin") (integer (pos 1))
    (member (codes "part") (array (item (table nozzle_table) (item (table gantry_table) no_items)))
    (member (codes "plate") (pair (pos 200) (pos 200)) (member (codes "step") (integer (pos 10)) no_members))))))

parsed : parse_document printer_text ≡ Some made_tree
unfolding toml_on_literals
parsed = refl

is_text : IsUtf8 printer_text
unfolding encode_utf8
is_text = (printer_text, (refl, refl))

stated : description_in made_tree ≡ Ok made_description
unfolding description_in top_in part_in outline_in key_at key_if tables_in name_in corners_in
stated = refl

pub described : DescribedBy printer_text made_description
described = record { tree = made_tree; is_tree = record { text = is_text; parsed = parsed }; states = stated }

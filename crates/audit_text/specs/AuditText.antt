-- The line that tells what an audit found. Places are told by their number in the plan, objects by theirs in the job.
--
--     audit collides 0 1 bands 0 0 part 1 nozzle
--
--   object_of places k            the number of the object that stands at place k
--   off_line k object             the line of a place off the plate
--   hit_line i j c b part name    the line of a collision: object i, printed earlier, in its band c with object j in its band b
--   audit_text parts places v     the line of a verdict on a plan of these places, for a printer of these parts
use Rattle.std.specs.Prelude.{ℕ, pos, List, ◌++◌, slice_index_or, codes}
use Rattle.seq_num.specs.Spelling.{spelling}
use Rattle.text_lines.specs.Lines.{number_line}
use Rattle.seq_model.specs.Jobs.{no_part}
use Rattle.seq_model.specs.declared.plan.Place.{Place}
use Rattle.seq_model.specs.declared.printer.Part.{Part}
use Rattle.plan_audit.specs.Faults.{nth}
use Rattle.plan_audit.specs.declared.verdict.Verdict.{Verdict}
use Rattle.plan_audit.specs.declared.verdict.Verdict.TheVariants as Verdicts

abbrev pub object_of : List Place → ℕ → ℕ
object_of places k = (nth places k).object

abbrev pub name_of : List Part → ℕ → List ℕ
name_of parts k = (slice_index_or parts k no_part).name

unfoldable pub off_text : ℕ → List ℕ
off_text k = codes "audit offplate " ++ spelling (pos k)

abbrev pub off_line : ℕ → ℕ → List ℕ
off_line k object = off_text k ++ number_line (codes " ") (pos object)

unfoldable pub pair_text : ℕ → ℕ → List ℕ
pair_text i j = codes "audit collides " ++ (spelling (pos i) ++ (codes " " ++ spelling (pos j)))

unfoldable pub bands_text : ℕ → ℕ → List ℕ
bands_text c b = codes " bands " ++ (spelling (pos c) ++ (codes " " ++ spelling (pos b)))

unfoldable pub part_text : ℕ → List ℕ → List ℕ
part_text part name = codes " part " ++ (spelling (pos part) ++ (codes " " ++ (name ++ codes "\n")))

abbrev pub hit_line : ℕ → ℕ → ℕ → ℕ → ℕ → List ℕ → List ℕ
hit_line i j c b part name = pair_text i j ++ (bands_text c b ++ part_text part name)

abbrev pub audit_text : List Part → List Place → Verdict → List ℕ
audit_text parts places Verdicts.Good = codes "audit good\n"
audit_text parts places (Verdicts.Stray k) = number_line (codes "audit stray ") (pos k)
audit_text parts places (Verdicts.Absent object) = number_line (codes "audit absent ") (pos object)
audit_text parts places (Verdicts.OffPlate k) = off_line k (object_of places k)
audit_text parts places (Verdicts.Collides h) =
    hit_line (object_of places h.earlier) (object_of places h.later) h.c h.b h.part (name_of parts h.part)

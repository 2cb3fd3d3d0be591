use Rattle.std.proofs.Common.{All, sym, subst}
use Rattle.outline_laws.specs.Corners.{IsNarrow}
use Rattle.printer_text.proofs.HullLaws.{near_enough, kept_of, sound_part}
use Rattle.printer_text.proofs.printer.kept_part.Goals as goal

pub hull-requires : goal.hull-requires
hull-requires c = subst (All IsNarrow) (sym c.as_slice.ensures) (near_enough c.args.part.corners c.requires.outline.near)

pub returns : goal.returns
returns c =
    let h = c.in_ok-corners.ensures in
    let kept = kept_of c.args.part c.as_slice.result.now c.in_ok-corners.corners.items c.from_vec.result c.as_slice.ensures c.from_vec.ensures h.corners h.members h.within h.inner in
    record { kept = kept; sound = sound_part c.args.part _ c.requires kept }

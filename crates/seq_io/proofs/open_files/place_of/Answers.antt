use Rattle.std.proofs.Common.{◌≡◌, true, sym}
use Rattle.std.specs.Str.{bytes_eq}
use Rattle.seq_io.proofs.Places.{found_at}
use Rattle.seq_io.proofs.open_files.place_of.Goals as goal

pub returns-then-eq-clause-has : goal.returns-then-eq-clause-has
returns-then-eq-clause-has c =
    let file = c.index-files-at in
    let named : bytes_eq file.result.name c.args.name.now ≡ true = sym (rw c.as_str.ensures at c.if-eq.ensures) in
    sym (found_at c.args.files.now c.loop-at.at file.result c.args.name.now c.loop-at-test.true file.is named c.loop-at.invariant.bytes c.loop-at.invariant.has).has

pub returns-then-eq-clause-found : goal.returns-then-eq-clause-found
returns-then-eq-clause-found c =
    let file = c.index-files-at in
    let named : bytes_eq file.result.name c.args.name.now ≡ true = sym (rw c.as_str.ensures at c.if-eq.ensures) in
    (found_at c.args.files.now c.loop-at.at file.result c.args.name.now c.loop-at-test.true file.is named c.loop-at.invariant.bytes c.loop-at.invariant.has).bytes

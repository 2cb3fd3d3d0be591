use Rattle.std.proofs.Common.{refl, subst}
use Rattle.mesh_slices.specs.Objects.{IsObjectOf}
use Rattle.run_files.specs.Files.{mesh_of}
use Rattle.trial_job.proofs.making.made_object.Goals as goal

pub returns-in-Ok-clause-is : goal.returns-in-Ok-clause-is
returns-in-Ok-clause-is c =
    let name = c.args.file.now.name in
    let mesh = c.in_ok-mesh.mesh in
    record {
      mesh = mesh_of name mesh.facets mesh.dropped;
      is = record { named = refl; is = c.in_ok-mesh.ensures.is };
      object = subst (λ n. IsObjectOf n mesh.facets c.args.printer.now c.in-Ok.object) c.as_str.ensures c.in-Ok.ensures.object;
      counted = c.facets_read.ensures.count;
    }

use Rattle.stl_text.specs.Laws.Meshes.{one_mesh, one_refusal, refused_no_mesh}
use Rattle.stl_text.proofs.mesh.one_answer.Goals as goal

pub returns : goal.returns
returns c = record { mesh = one_mesh; refusal = one_refusal; not_both = refused_no_mesh }

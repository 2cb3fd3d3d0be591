use Rattle.std.proofs.Common.{◌∷◌, [], length, All, sym, ap, subst, ◌∙◌, arith, length-append}
use Rattle.std.proofs.lemmas.List.Elements.{All-push}
use Rattle.seq_model.specs.Soundness.{IsSoundObject}
use Rattle.bench_certificates.proofs.objects.Goals as goal

pub loop-preserved : goal.loop-preserved
loop-preserved c =
    let long = ap length c.in_ok-push.ensures.ok ∙ length-append c.loop.objects (c.in-Ok.object ∷ []) in
    record {
      many = omega (arith, long, c.loop.invariant.many);
      sound = subst (All IsSoundObject) (sym c.in_ok-push.ensures.ok) (All-push IsSoundObject c.loop.objects c.in-Ok.object c.loop.invariant.sound c.in-Ok.ensures.object.sound);
    }

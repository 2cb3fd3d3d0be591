use Rattle.std.proofs.Common.{◌≡◌, rules, ◌||◌, ap, ◌∙◌}
use Rattle.plan_audit.specs.Steps.{span_out}
use Rattle.plan_audit.proofs.places.is_box_out.Goals as goal

pub returns : goal.returns
returns c =
    let x : c.is_span_out.result ≡ span_out c.args.scale c.args.region.now.low.x c.args.region.now.w c.args.low.now.x c.args.high.now.x c.args.place.now.x = search rules in
    let y : c.is_span_out-2.result ≡ span_out c.args.scale c.args.region.now.low.y c.args.region.now.h c.args.low.now.y c.args.high.now.y c.args.place.now.y = search rules in
    c.either.ensures ∙ (ap (λ t. t || c.is_span_out-2.result) x ∙ ap (λ t. span_out c.args.scale c.args.region.now.low.x c.args.region.now.w c.args.low.now.x c.args.high.now.x c.args.place.now.x || t) y)

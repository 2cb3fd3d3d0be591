use Rattle.std.proofs.Common.{◌<◌, ◌^◌, unsigned_abs, sym, subst, ◌∙◌, arith}
use Rattle.cert_checker.proofs.kept.row_of.Goals as goal

pub returns : goal.returns
returns c = record {
  is = c.side_row.ensures.row;
  short = record {
    i_in = omega (arith, c.side_row.ensures.i, c.requires.contact.i_in);
    j_in = omega (arith, c.side_row.ensures.j, c.requires.contact.j_in);
    apart = λ e. c.requires.contact.apart (sym c.side_row.ensures.i ∙ (e ∙ c.side_row.ensures.j));
    x_small = subst (λ z. unsigned_abs z < 2 ^ 22) (sym c.side_row.ensures.x) c.requires.dir.0;
    y_small = subst (λ z. unsigned_abs z < 2 ^ 22) (sym c.side_row.ensures.y) c.requires.dir.1;
    constant_small = c.side_row.ensures.size;
  };
}

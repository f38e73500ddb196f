-- Each lane is read where the column begins.
use Rattle.std.proofs.Common.{arith, ◌≡◌, ◌+◌, ◌-◌, ◌*◌, ◌∙◌, ap, drop, get_or, length}
use Rattle.std.proofs.lemmas.List.{get_or-drop, get_or-take}
use Rattle.p3_support.proofs.rows.stored_column.Goals as goal

pub returns : goal.returns
returns g c = λ k below.
    let rows = c.args.rows.now in
    let first = c.args.column in
    let place = k * c.args.width in
    let default = g.P.PackedValue.default_value in
    let at : first + place ≡ place + first = omega arith in
    c.from_fn.ensures k below default
    ∙ get_or-take (length rows - first) (drop first rows) place default (omega (arith, c.requires.inside k below))
    ∙ get_or-drop first rows place default ∙ ap (λ i. get_or rows i default) at

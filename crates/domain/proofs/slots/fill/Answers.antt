use Rattle.std.proofs.Common.{rules, ap, ◌∙◌, replicate}
use Rattle.domain.proofs.Fills.{filled}
use Rattle.domain.proofs.slots.fill.Goals as goal

pub returns : goal.returns
returns g c =
    filled _ c.args.value _ c.fill_with.ensures.ran.0 _ (λ x u k. search rules) c.fill_with.ensures.ran.1
    ∙ ap (λ n. replicate n c.args.value) c.fill_with.ensures.len

use Rattle.am_instance.specs.Configs.{IsLongName}
use Rattle.am_instance.proofs.Names.{any_later, any_tail}
use Rattle.am_instance.proofs.config.has_long.Goals as goal

pub returns-else-is_long : goal.returns-else-is_long
returns-else-is_long c =
    let name = c.args.name.now in
    let peers = c.args.peers.now in
    let not_first : IsLongName name → ⊥ = λ holds. let yes = c.is_long.ensures.1 holds in let no = c.if-is_long.false in cc in
    (λ yes. any_later IsLongName name peers (c.any_long.ensures.0 yes), λ found. c.any_long.ensures.1 (any_tail IsLongName name peers not_first found))

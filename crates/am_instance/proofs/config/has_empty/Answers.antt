use Rattle.am_instance.specs.Configs.{IsEmptyName}
use Rattle.am_instance.proofs.Names.{any_later, any_tail}
use Rattle.am_instance.proofs.config.has_empty.Goals as goal

pub returns-else-is_empty : goal.returns-else-is_empty
returns-else-is_empty c =
    let name = c.args.name.now in
    let peers = c.args.peers.now in
    let not_first : IsEmptyName name → ⊥ = λ holds. let yes = c.is_empty.ensures.1 holds in let no = c.if-is_empty.false in cc in
    (λ yes. any_later IsEmptyName name peers (c.any_empty.ensures.0 yes), λ found. c.any_empty.ensures.1 (any_tail IsEmptyName name peers not_first found))

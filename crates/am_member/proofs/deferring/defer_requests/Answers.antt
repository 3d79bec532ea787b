use Rattle.std.proofs.Common.{◌≡◌, ◌∙◌, List, map, filter, sym, ap}
use Rattle.std.proofs.lemmas.List.Folds.{map_fixed}
use Rattle.am_gossip.specs.declared.frame.Frame.{Frame}
use Rattle.am_http.specs.Sessions.{Spoken}
use Rattle.am_member.specs.Sparing.{brings, quiet}
use Rattle.am_member.proofs.deferring.defer_requests.Goals as goal

pub returns-clause-said : goal.returns-clause-said
returns-clause-said c =
    let said = c.args.said in
    let left = c.strip_requests.new.frames.items in
    let frames : left ≡ map quiet (filter brings said.frames.items) =
    sym (map_fixed quiet left c.strip_requests.ensures.quiet) ∙ c.strip_requests.ensures.same ∙ ap (map quiet) c.drop_ticks.ensures in
    ap (λ (fs : List Frame). let spoken : Spoken = record { frames = fs; request = said.request; fault = said.fault } in spoken) frames

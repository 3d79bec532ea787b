use Rattle.std.proofs.Common.{[], append-nil}
use Rattle.am_merge.proofs.Keys.{key_order}
use Rattle.am_runs.specs.Members.{member_of}
use Rattle.am_runs.proofs.Agrees.{calm_past}
use Rattle.am_runs.proofs.Views.{calm_view}
use Rattle.am_runs.proofs.laws.calm_members_show_the_bare_set.Goals as goal

pub returns : goal.returns
returns g c members place steps now key calm forward =
    calm_view g.V.Version.seen g.V.Key.Ord.cmp (key_order g.met.V.Key.Ord.total g.met.V.Version.exact_keys) (member_of members place steps).past now key
    (calm_past g.V.Version.seen members place steps [] steps (append-nil steps) calm) forward

use Rattle.std.proofs.Common.{◌∙◌, sym, subst, ap, None, ◌≡◌}
use Rattle.am_merge.specs.Maps.{if_live}
use Rattle.am_nflog.specs.Mesh.{mesh_version as entry_version}
use Rattle.am_nflog.specs.Keys.{key_cmp}
use Rattle.am_dedup.specs.Decisions.{set_of}
use Rattle.am_instance.specs.Replies.{entry_in_view}
use Rattle.am_runs.specs.Members.{map_of, member_of}
use Rattle.am_cluster.specs.Questions.{key_of}
use Rattle.am_cluster.proofs.Asking.{first_alone}
use Rattle.am_cluster.proofs.laws.first.first_is_told_after_a_spread.Goals as goal

pub returns : goal.returns
returns c = λ members spread flight now before rest step entry positive run timely moment_is has old place runs stand asked made gone key answered.
    let none : entry_in_view now stand.log (key_of asked) ≡ None = first_alone (entry_in_view now stand.log (key_of asked)) (set_of asked.firing) (set_of asked.resolved) asked.repeat asked.send_resolved now answered.0 in
    let past = (member_of members place before).past in
    let shown : if_live entry_version now (map_of entry_version key_cmp past (entry_version entry).key) ≡ None =
    subst (λ k. if_live entry_version now (map_of entry_version key_cmp past k) ≡ None) (sym key)
    (ap (λ o. if_live entry_version now o) (sym (gone.map (key_of asked))) ∙ none) in
    let told = c.nothing_shown_after_a_spread.ensures members spread flight now before rest step entry positive run timely moment_is has old place runs shown in
    (told.0, told.1, told.2 ∙ key, told.3, told.4)

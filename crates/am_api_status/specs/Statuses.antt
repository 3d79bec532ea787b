-- A member's status: `alertmanagerStatus` of API v2, as data of JSON (RFC 8259) with the keys of each object in byte order.
use Rattle.std.specs.Prelude.{ℕ, Bool, true, false, List, [], map, codes}
use Rattle.serde_json.specs.Data.{Data, unsigned, number, string, array, object, member, no_members}
use Rattle.serde_json.specs.View.{items_of}
use Rattle.am_api_status.specs.declared.status.ClusterPeer.{ClusterPeer}
use Rattle.am_api_status.specs.declared.status.MemberStatus.{MemberStatus}
use Rattle.am_api_status.specs.declared.status.Neighbor.{Neighbor}

-- a member of the cluster: peerStatus
abbrev pub peer_data : ClusterPeer → Data
peer_data peer = object (member (codes "address") (string peer.address) (member (codes "name") (string peer.name) no_members))

-- an Alertmanager beside the member: where it is asked, what it lacked when it was last heard, and how often silences weren't
-- sent to it
abbrev pub neighbor_data : Neighbor → Data
neighbor_data n =
    object (
    member (codes "address") (string n.address) (
    member (codes "lacked") (number (unsigned n.lacked)) (
    member (codes "lastHeard") (string n.last_heard) (
    member (codes "name") (string n.name) (
    member (codes "withheld") (number (unsigned n.withheld)) no_members)))))

-- the word for a member's readiness: one that answers requests is ready, and one that waits for its first pull, or stops, is
-- settling
abbrev pub status_word : Bool → List ℕ
status_word true = codes "ready"
status_word false = codes "settling"

-- the cluster: clusterStatus
abbrev pub cluster_data : MemberStatus → Data
cluster_data s =
    object (
    member (codes "name") (string s.name) (
    member (codes "peers") (array (items_of (map peer_data s.peers.items))) (
    member (codes "status") (string (status_word s.is_ready)) no_members)))

-- the options of the start: alertmanagerConfig
abbrev pub config_data : List ℕ → Data
config_data options = object (member (codes "original") (string options) no_members)

-- the versions that the program was built of: versionInfo, in which only the version is known
abbrev pub versions_data : List ℕ → Data
versions_data version =
    object (
    member (codes "branch") (string []) (
    member (codes "buildDate") (string []) (
    member (codes "buildUser") (string []) (
    member (codes "goVersion") (string []) (
    member (codes "revision") (string []) (
    member (codes "version") (string version) no_members))))))

-- the whole status, with the text of the moment of the start
unfoldable pub status_data : MemberStatus → List ℕ → Data
status_data s start =
    object (
    member (codes "alertmanagers") (array (items_of (map neighbor_data s.alertmanagers.items))) (
    member (codes "cluster") (cluster_data s) (
    member (codes "config") (config_data s.options) (
    member (codes "uptime") (string start) (
    member (codes "versionInfo") (versions_data s.version.now) no_members)))))

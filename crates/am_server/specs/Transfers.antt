-- The transfer of all that is held to a peer.
use Rattle.std.specs.Prelude.{Bool, true, false, ◌||◌, if◌then◌else◌, List, Option, Some, None}
use Rattle.am_gossip.specs.declared.frame.Frame.{Frame}
use Rattle.am_gossip.specs.declared.frame.Frame.TheVariants.{Push, Pull}
use Rattle.am_gossip.specs.declared.frame.Part.{Part}
use Rattle.am_instance.specs.declared.handing.Handout.{Handout}
use Rattle.am_instance.specs.declared.handing.Handout.TheVariants.{Silences}
use Rattle.am_server.specs.declared.state_transfer.StateTransfer.{StateTransfer}
use Rattle.am_server.specs.declared.state_transfer.TransferKind.{TransferKind}
use Rattle.am_server.specs.declared.state_transfer.TransferKind.TheVariants.{Send, Exchange}
use Rattle.am_server.specs.declared.state_transfer.TransferStage.{TransferStage}
use Rattle.am_server.specs.declared.state_transfer.TransferStage.TheVariants.{Nothing, Waiting, Open}

-- nothing is to be handed to the peer, and it isn't asked for anything
abbrev pub no_transfer : StateTransfer
no_transfer = record { stage = Nothing; asks = false }

-- once all is to be handed on: what has begun goes on
abbrev pub once_wanted : TransferStage → TransferStage
once_wanted Nothing = Waiting
once_wanted begun = begun

-- the peer is asked for as much
abbrev pub asks_back : TransferKind → Bool
asks_back Send = false
asks_back Exchange = true

-- once a transfer of this kind is wanted
abbrev pub with_wanted : TransferKind → StateTransfer → StateTransfer
with_wanted kind transfer = record { stage = once_wanted transfer.stage; asks = transfer.asks || asks_back kind }

-- all is to be handed on, and no link is asked for yet
abbrev pub waits_at : TransferStage → Bool
waits_at Waiting = true
waits_at _ = false

abbrev pub wants_link : StateTransfer → Bool
wants_link transfer = waits_at transfer.stage

-- once a link is asked for, over which all is left
abbrev pub with_all_left : StateTransfer → StateTransfer
with_all_left transfer = record transfer { stage = Open (Silences None) }

-- all that is left for the link
abbrev pub left_at : TransferStage → Option Handout
left_at (Open left) = Some left
left_at _ = None

abbrev pub left_in : StateTransfer → Option Handout
left_in transfer = left_at transfer.stage

-- once what is left was taken out
abbrev pub with_none_left : StateTransfer → StateTransfer
with_none_left transfer = record transfer { stage = Nothing }

-- the frame of a part, by what is left behind it: the last one asks the peer for as much, if that is wanted
abbrev pub part_frame : StateTransfer → List Part → Option Handout → Frame
part_frame transfer part (Some left) = Pull part
part_frame transfer part None = if transfer.asks then Push part else Pull part

-- once that frame was made
abbrev pub behind_part : StateTransfer → Option Handout → StateTransfer
behind_part transfer (Some left) = record transfer { stage = Open left }
behind_part transfer None = record transfer { asks = false }

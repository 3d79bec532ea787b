-- A reply that is being made is finished with some reply, and that its step was made doesn't hang on which.
use Rattle.std.proofs.Common.{List, refl}
use Rattle.am_api_silences.specs.ReplyBuilder.{IsMadeOf}
use Rattle.am_api_silences.specs.Replies.{memory_bytes}
use Rattle.am_api_silences.specs.declared.reply_builder.ReplyBuilder.{ReplyBuilder}
use Rattle.am_api_silences.specs.declared.reply_builder.ReplyBuilder.TheVariants as makings
use Rattle.am_api_silences.specs.declared.replies.ResponseBytes.{ResponseBytes}
use Rattle.am_api_silences.specs.declared.replies.ResponseBytes.TheVariants.{Fixed}

pub finish_of : (making : ReplyBuilder) → (reply : ResponseBytes) × IsMadeOf making reply
finish_of (makings.Whole whole) = (whole, refl)
finish_of (makings.Filtering sieve) = (Fixed (record { ref_ptr = (0, 0); now = memory_bytes }), refl)
finish_of (makings.List list) = (Fixed (record { ref_ptr = (0, 0); now = memory_bytes }), refl)

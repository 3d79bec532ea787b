-- Answers whose replies are being made.
use Rattle.std.proofs.Common.{◌≡◌, sym, subst}
use Rattle.am_instance.specs.Sendings.{Sent, nothing_sent}
use Rattle.am_api_silences.specs.Answers.{Answered, WhenMade, answer_in}
use Rattle.am_api_silences.specs.ReplyBuilder.{IsMadeOf, Makes}
use Rattle.am_api_silences.specs.declared.answering.Answered.{Answered as Whole}
use Rattle.am_api_silences.specs.declared.answering.PendingAnswer.{PendingAnswer}
use Rattle.am_api_silences.specs.declared.reply_builder.ReplyBuilder.{ReplyBuilder}
use Rattle.am_api_silences.specs.declared.reply_builder.ReplyBuilder.TheVariants as makings
use Rattle.am_api_silences.specs.declared.replies.ResponseBytes.{ResponseBytes}

-- one whose reply is whole is finished with that
pub whole_makes : (IsSuch : ResponseBytes → Type 0) (reply : ResponseBytes) (making : ReplyBuilder) → making ≡ makings.Whole reply → IsSuch reply → Makes IsSuch making
whole_makes IsSuch reply making is such =
    subst (λ (m : ReplyBuilder). Makes IsSuch m) (sym is) (λ whole made. subst IsSuch (sym made) such)

-- one whose reply is whole and with which nothing is sent is such as that
pub becomes : (IsSuch : Answered → Type 0) (reply : ResponseBytes) (begun : PendingAnswer) → begun.making ≡ makings.Whole reply → begun.outbox ≡ nothing_sent →
    IsSuch (record { reply = reply; sent = nothing_sent }) → WhenMade IsSuch begun
becomes IsSuch reply begun is none such = whole_makes (λ whole. IsSuch (record { reply = whole; sent = begun.outbox })) reply begun.making is
    (subst (λ (sent : Sent). IsSuch (record { reply = reply; sent = sent })) (sym none) such)

-- one that is whole is such as it becomes
pub whole_is : (IsSuch : Answered → Type 0) (begun : PendingAnswer) (whole : Whole) → WhenMade IsSuch begun → IsMadeOf begun.making (answer_in whole).reply
    → (answer_in whole).sent ≡ begun.outbox → IsSuch (answer_in whole)
whole_is IsSuch begun whole such made same = subst (λ (sent : Sent). IsSuch (record { reply = whole.reply; sent = sent })) (sym same) (such whole.reply made)

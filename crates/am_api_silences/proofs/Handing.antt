-- The service of a request, by the bytes that were read.
use Rattle.std.proofs.Common.{◌≡◌, ℕ, List, Option, None, Ok, sym, subst}
use Rattle.am_http.specs.declared.request.Read.{Read}
use Rattle.am_http.specs.declared.request.Read.TheVariants.{More, Whole, Refused}
use Rattle.am_http.specs.declared.request.Request.{Request}
use Rattle.am_http.specs.declared.refusal.Refusal.{Refusal}
use Rattle.am_instance.specs.InstanceStates.{InstanceState}
use Rattle.am_api_silences.specs.Answers.{Answered, IsRefusalAnswer, IsRequestAnswer}
use Rattle.am_api_silences.specs.Serving.{IsHandedOn, IsServed, IsSilent}
use Rattle.am_api_silences.specs.declared.serving.Served.{Served}

module _ (read : Read) (bits now : ℕ) (old new : InstanceState) (before after : Option (List ℕ)) (served : Served) where
  pub whole_served : (request : Request) (answered : Answered) → read ≡ Whole request → IsRequestAnswer old request bits now answered new
      → IsHandedOn before after answered served → IsServed (Ok read) bits now old new before after served
  whole_served request answered is done handed =
      subst (λ (r : Read). IsServed (Ok r) bits now old new before after served) (sym is) (answered, done, handed)

  pub refused_served : (refusal : Refusal) (answered : Answered) → read ≡ Refused refusal → IsRefusalAnswer refusal old answered new
      → IsHandedOn before after answered served → IsServed (Ok read) bits now old new before after served
  refused_served refusal answered is done handed =
      subst (λ (r : Read). IsServed (Ok r) bits now old new before after served) (sym is) (answered, done, handed)

  pub none_served : read ≡ More → IsSilent None old new before after served → IsServed (Ok read) bits now old new before after served
  none_served is silent = subst (λ (r : Read). IsServed (Ok r) bits now old new before after served) (sym is) silent

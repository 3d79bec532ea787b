use Rattle.std.proofs.Common.{ℕ, false, List, None, refl, subst}
use Rattle.am_http.specs.declared.request.Read.{Read}
use Rattle.am_http.specs.declared.request.Read.TheVariants.{More}
use Rattle.am_http.specs.Requests.{IsReadOf}
use Rattle.am_http.specs.Sessions.{over, spoken}
use Rattle.am_http.proofs.Asked.{asked_is}
use Rattle.am_http.proofs.session.asking.ask.Goals as goal

pub returns-in-More-clause-says : goal.returns-in-More-clause-says
returns-in-More-clause-says c = (More, subst (λ (bytes : List ℕ). IsReadOf bytes false More) c.deref.ensures.value c.in-More.ensures, (c.nothing.ensures, refl))

pub returns-in-More-clause-sound : goal.returns-in-More-clause-sound
returns-in-More-clause-sound c =
    let read : IsReadOf c.args.bytes.items false More = subst (λ (bytes : List ℕ). IsReadOf bytes false More) c.deref.ensures.value c.in-More.ensures in
    (c.requires, read.0)

pub returns-in_default : goal.returns-in_default
returns-in_default c =
    let bytes : List ℕ = c.args.bytes.items in
    let read : Read = c.read_request.result in
    let is : IsReadOf bytes false read = subst (λ (x : List ℕ). IsReadOf x false read) c.deref.ensures.value c.read_request.ensures in
    record {
      says = (read, is, asked_is bytes read (spoken c.asked.result) (over None) c.in_default.not-More c.asked.ensures refl);
      sound = tt;
    }

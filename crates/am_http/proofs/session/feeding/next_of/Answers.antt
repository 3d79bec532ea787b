use Rattle.std.proofs.Common.{arith, inl, length-append, refl}
use Rattle.am_http.proofs.session.feeding.next_of.Goals as goal

pub ask_on-requires : goal.ask_on-requires
ask_on-requires c =
    let sound = rw c.in-Asking.is at c.requires in
    rw length-append (omega (arith, sound.0))

pub hear-requires : goal.hear-requires
hear-requires c = rw c.in-Hearing.is at c.requires

pub returns-in-Fresh-clause-says : goal.returns-in-Fresh-clause-says
returns-in-Fresh-clause-says c = rw c.in-Fresh.is c.begin.ensures.says

pub returns-in-Asking-clause-says : goal.returns-in-Asking-clause-says
returns-in-Asking-clause-says c = rw c.in-Asking.is c.ask_on.ensures.says

pub returns-in-Greeting-clause-says : goal.returns-in-Greeting-clause-says
returns-in-Greeting-clause-says c = rw c.in-Greeting.is c.greet_on.ensures.says

pub returns-in-Hearing-clause-says : goal.returns-in-Hearing-clause-says
returns-in-Hearing-clause-says c = rw c.in-Hearing.is c.hear.ensures.says

pub returns-in-Over-clause-says : goal.returns-in-Over-clause-says
returns-in-Over-clause-says c = rw c.in-Over.is (inl (c.nothing.ensures, refl))

use Rattle.std.proofs.Common.{[], false, inl, inr, refl, sym, append-nil, arith}
use Rattle.am_store.proofs.laws.a_rewriting_is_an_act.Goals as goal

pub returns-clause-begins : goal.returns-clause-begins
returns-clause-begins g c = λ path most before. record {
  row = [];
  stood = false;
  ended = false;
  directory = [];
  calls = sym (append-nil before);
  written = (refl, refl);
  fits = omega arith;
  has = tt;
}

pub returns-clause-under_way : goal.returns-clause-under_way
returns-clause-under_way g c = λ path most maps stage before after come. inr (inr (stage, come))

pub returns-clause-done : goal.returns-clause-done
returns-clause-done g c = λ path most maps before after anew. inl anew

pub returns-clause-stopped : goal.returns-clause-stopped
returns-clause-stopped g c = λ path most map maps before after fault stops. inr (inl (map, fault, stops))

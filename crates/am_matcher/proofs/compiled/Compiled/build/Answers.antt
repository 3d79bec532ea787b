use Rattle.std.proofs.Common.{◌≡◌}
use Rattle.am_silence.specs.declared.matcher.Matcher.{Matcher}
use Rattle.am_matcher.specs.declared.dialect.Dialect.TheVariants.{Regex}
use Rattle.am_matcher.specs.Dialects.{IsMeant}
use Rattle.am_matcher.proofs.HandedOn.{if_ok_then}
use Rattle.am_matcher.proofs.Meant.{compiled_itself, refused_itself, sound_compiled}
use Rattle.am_matcher.proofs.compiled.Compiled.build.Goals as goal

pub returns-clause-matcher : goal.returns-clause-matcher
returns-clause-matcher c =
    let m = c.args.matcher.now in
    if_ok_then (IsMeant Regex m) (λ (x : Matcher). x ≡ m) c.build_in.result (compiled_itself m) c.build_in.ensures.meant

pub returns-clause-sound : goal.returns-clause-sound
returns-clause-sound c = sound_compiled c.args.matcher.now c.build_in.result c.build_in.ensures.meant c.build_in.ensures.sound

pub returns-clause-broken : goal.returns-clause-broken
returns-clause-broken c bad = refused_itself c.args.matcher.now (c.build_in.ensures.broken bad)

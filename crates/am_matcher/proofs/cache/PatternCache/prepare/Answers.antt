use Rattle.std.proofs.Common.{◌≡◌, true, false}
use Rattle.am_matcher.specs.declared.cache.Prepared.{Prepared}
use Rattle.am_matcher.specs.declared.dialect.Dialect.TheVariants.{Regex}
use Rattle.am_matcher.specs.Patterns.{IsSound, IsBroken}
use Rattle.am_matcher.specs.Dialects.{IsSoundIn, IsBrokenIn}
use Rattle.am_matcher.proofs.HandedOn.{if_ok_then}
use Rattle.am_matcher.proofs.Meant.{sound_itself, broken_itself}
use Rattle.am_matcher.proofs.cache.PatternCache.prepare.Goals as goal

pub returns-clause-sound : goal.returns-clause-sound
returns-clause-sound c =
    let p = c.args.pattern.now in
    if_ok_then (λ (x : Prepared). x.is_broken ≡ false → IsSoundIn Regex p) (λ (x : Prepared). x.is_broken ≡ false → IsSound p) c.prepare_in.result
    (λ x sound no. sound_itself p (sound no)) c.prepare_in.ensures.sound

pub returns-clause-broken : goal.returns-clause-broken
returns-clause-broken c =
    let p = c.args.pattern.now in
    if_ok_then (λ (x : Prepared). x.is_broken ≡ true → IsBrokenIn Regex p) (λ (x : Prepared). x.is_broken ≡ true → IsBroken p) c.prepare_in.result
    (λ x broken yes. broken_itself p (broken yes)) c.prepare_in.ensures.broken

use Rattle.std.proofs.Common.{ap, refl}
use Rattle.am_reactor.specs.History.{leaves_in, line_of}
use Rattle.am_reactor.proofs.Histories.{leads_hears, leads_tells}
use Rattle.am_reactor.proofs.Sends.{tells_none}
use Rattle.am_reactor.proofs.serving.read_and_write.Goals as goal

pub returns-in_err-heard-clause-phase : goal.returns-in_err-heard-clause-phase
returns-in_err-heard-clause-phase g c = c.read_available.ensures.heard.phase

pub returns-in_err-heard-clause-exchanged : goal.returns-in_err-heard-clause-exchanged
returns-in_err-heard-clause-exchanged g c =
    record { mid = c.read_available.new.service; at = c.read_available.new.connection; heard = c.read_available.ensures.heard; told = tells_none _ _ _ _ _ _ }

pub returns-in_err-told-clause-phase : goal.returns-in_err-told-clause-phase
returns-in_err-told-clause-phase g c = c.read_available.ensures.heard.phase

pub returns-in_err-told-clause-exchanged : goal.returns-in_err-told-clause-exchanged
returns-in_err-told-clause-exchanged g c = record {
  mid = c.read_available.new.service;
  at = c.read_available.new.connection;
  heard = c.read_available.ensures.heard;
  told = record { sent = c.flush_session.ensures.out; unread = c.flush_session.ensures.unread; read = refl; ended = refl; phase = refl };
}

pub returns-clause-phase : goal.returns-clause-phase
returns-clause-phase g c = c.read_available.ensures.heard.phase

pub returns-clause-exchanged : goal.returns-clause-exchanged
returns-clause-exchanged g c = record {
  mid = c.read_available.new.service;
  at = c.read_available.new.connection;
  heard = c.read_available.ensures.heard;
  told = record { sent = c.flush_session.ensures.out; unread = c.flush_session.ensures.unread; read = refl; ended = refl; phase = refl };
}

pub returns-in_err-heard-clause-led : goal.returns-in_err-heard-clause-led
returns-in_err-heard-clause-led g c = leads_hears g.S.Service _ _ _ _ _ _ _ _ c.read_available.ensures.heard (ap leaves_in c.requires.«open»)

pub returns-in_err-told-clause-led : goal.returns-in_err-told-clause-led
returns-in_err-told-clause-led g c key others first begun leads =
    leads_tells g.S.Service _ _ _ _ (line_of c.read_available.new.connection) _ _ _ _ c.flush_session.ensures.out c.flush_session.ensures.unread refl key others first begun
    (leads_hears g.S.Service _ _ _ _ _ _ _ _ c.read_available.ensures.heard (ap leaves_in c.requires.«open») key others first begun leads)

pub returns-clause-led : goal.returns-clause-led
returns-clause-led g c key others first begun leads =
    leads_tells g.S.Service _ _ _ _ (line_of c.read_available.new.connection) _ _ _ _ c.flush_session.ensures.out c.flush_session.ensures.unread refl key others first begun
    (leads_hears g.S.Service _ _ _ _ _ _ _ _ c.read_available.ensures.heard (ap leaves_in c.requires.«open») key others first begun leads)

pub returns-then-has_left-clause-led : goal.returns-then-has_left-clause-led
returns-then-has_left-clause-led g c key others first begun leads =
    leads_tells g.S.Service _ _ _ _ (line_of c.read_available.new.connection) _ _ _ _ c.flush_session.ensures.out c.flush_session.ensures.unread refl key others first begun
    (leads_hears g.S.Service _ _ _ _ _ _ _ _ c.read_available.ensures.heard (ap leaves_in c.requires.«open») key others first begun leads)

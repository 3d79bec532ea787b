use Rattle.std.proofs.Common.{refl, inl, inr}
use Rattle.am_reactor.proofs.links.flush_link.Goals as goal

pub returns-in-Ok-Going-Idle-clause-moved : goal.returns-in-Ok-Going-Idle-clause-moved
returns-in-Ok-Going-Idle-clause-moved g c = inr (inl (c.is_open.ensures.open (cc), record { mid = c.advance.new.self; open_ = c.advance.ensures.open; went = c.advance.ensures.out; next = inl (refl, refl, c.in-Ok-Going-Idle.ensures.heard) }))

pub returns-in-Ok-Going-Busy-clause-moved : goal.returns-in-Ok-Going-Busy-clause-moved
returns-in-Ok-Going-Busy-clause-moved g c = inr (inl (c.is_open.ensures.open (cc), record { mid = c.advance.new.self; open_ = c.advance.ensures.open; went = c.advance.ensures.out; next = inl (refl, refl, c.in-Ok-Going-Busy.ensures.heard) }))

pub returns-then-has_uncommitted-clause-moved : goal.returns-then-has_uncommitted-clause-moved
returns-then-has_uncommitted-clause-moved g c = inr (inl (c.is_open.ensures.open (cc), record { mid = c.advance.new.self; open_ = c.advance.ensures.open; went = c.advance.ensures.out; next = inl (refl, refl, c.in-Ok-Done.ensures.heard) }))

pub returns-else-has_uncommitted-clause-moved : goal.returns-else-has_uncommitted-clause-moved
returns-else-has_uncommitted-clause-moved g c = inr (inl (
  c.is_open.ensures.open (cc),
  record {
    mid = c.advance.new.self;
    open_ = c.advance.ensures.open;
    went = c.advance.ensures.out;
    next = inr (inl (c.advance.ensures.done (cc), c.in-Ok-Done.ensures.heard, c.advance.ensures.answered (cc), c.ask_more.ensures.asked));
  },
))

pub returns-in-Err-clause-moved : goal.returns-in-Err-clause-moved
returns-in-Err-clause-moved g c = inr (inl (
  c.is_open.ensures.open (cc),
  record {
    mid = c.advance.new.self;
    open_ = c.advance.ensures.open;
    went = c.advance.ensures.out;
    next = inr (inr (c.close.ensures.closed, (_, c.lost.ensures)));
  },
))

use Rattle.am_member.proofs.Exchanging.{whole_answered, refused_answered}
use Rattle.am_member.proofs.answering.reply_to.Goals as goal

pub returns-in-Whole-clause-answered : goal.returns-in-Whole-clause-answered
returns-in-Whole-clause-answered c =
    whole_answered _ _ _ _ _ _ c.begin_answer.result c.replied.ensures.reply c.replied.ensures.effects c.replied.ensures.no_fault c.in-Whole.request c.in-Whole.is c.begin_answer.ensures

pub returns-in-Refused-clause-answered : goal.returns-in-Refused-clause-answered
returns-in-Refused-clause-answered c =
    refused_answered _ _ _ _ _ _ c.refuse.result c.replied-in-Refused.ensures.reply c.replied-in-Refused.ensures.effects c.replied-in-Refused.ensures.no_fault c.in-Refused.refusal c.in-Refused.is
    (c.refuse.ensures c.args.instance.now)

use Rattle.am_api_silences.specs.Answers.{Answered, IsRefusalAnswer, answer_in}
use Rattle.am_api_silences.proofs.Beginning.{whole_is}
use Rattle.am_api_silences.proofs.Handing.{whole_served, refused_served, none_served}
use Rattle.am_api_silences.proofs.Statuses.{refusal_status, request_status}
use Rattle.am_api_silences.proofs.serving.reply_to.Goals as goal

pub hand_on-requires : goal.hand_on-requires
hand_on-requires g c = request_status _ _ _ _ _ _ c.answer.ensures

pub hand_on-requires-in-Refused : goal.hand_on-requires-in-Refused
hand_on-requires-in-Refused g c =
    let told = whole_is (λ (answered : Answered). IsRefusalAnswer c.in-Refused.refusal c.args.instance.now answered c.args.instance.now) c.refuse.result c.finish.result
    (c.refuse.ensures c.args.instance.now) c.finish.ensures.reply c.finish.ensures.sent in
    refusal_status _ _ _ _ told

pub returns-in-Whole : goal.returns-in-Whole
returns-in-Whole g c =
    whole_served c.args.read c.args.bits c.args.now c.args.instance.now c.answer.new.instance (g.W.Write.contents c.args.writer.now) (g.W.Write.contents c.hand_on.new.writer) c.hand_on.result
    c.in-Whole.request (answer_in c.answer.result) c.in-Whole.is c.answer.ensures c.hand_on.ensures

pub returns-in-Refused : goal.returns-in-Refused
returns-in-Refused g c =
    let told = whole_is (λ (answered : Answered). IsRefusalAnswer c.in-Refused.refusal c.args.instance.now answered c.args.instance.now) c.refuse.result c.finish.result
    (c.refuse.ensures c.args.instance.now) c.finish.ensures.reply c.finish.ensures.sent in
    refused_served c.args.read c.args.bits c.args.now c.args.instance.now c.args.instance.now (g.W.Write.contents c.args.writer.now) (g.W.Write.contents c.hand_on-in-Refused.new.writer) c.hand_on-in-Refused.result
    c.in-Refused.refusal (answer_in c.finish.result) c.in-Refused.is told c.hand_on-in-Refused.ensures

pub returns-in-More : goal.returns-in-More
returns-in-More g c =
    none_served c.args.read c.args.bits c.args.now c.args.instance.now c.args.instance.now (g.W.Write.contents c.args.writer.now) (g.W.Write.contents c.args.writer.now) c.silent.result
    c.in-More.is (c.silent.ensures c.args.instance.now (g.W.Write.contents c.args.writer.now))

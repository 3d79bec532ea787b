use Rattle.am_api_silences.proofs.events.ask.Goals as goal

pub returns-in-Post : goal.returns-in-Post
returns-in-Post c = rw c.in-Post.is (c.post.ensures c.args.dialect)

use Rattle.am_reactor.proofs.connections.relieve.Goals as goal

pub returns : goal.returns
returns g c first begun leads = c.relieve_of_replies.ensures first begun (c.relieve_of_pieces.ensures first begun leads)

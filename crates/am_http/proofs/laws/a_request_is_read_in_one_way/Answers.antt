use Rattle.am_http.proofs.Unique.{one_request, is_whole, is_sound}
use Rattle.am_http.proofs.laws.a_request_is_read_in_one_way.Goals as goal

pub returns : goal.returns
returns c = record { one = one_request; whole = is_whole; sound = is_sound }

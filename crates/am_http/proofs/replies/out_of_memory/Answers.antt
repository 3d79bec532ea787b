use Rattle.std.specs.Fmt.{digits}
use Rattle.am_http.proofs.replies.out_of_memory.Goals as goal

pub returns : goal.returns
unfolding digits
returns c = c.as_bytes.ensures.value

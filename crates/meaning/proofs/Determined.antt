-- "The team proves that two replies allowed by the statement are equal": each public function's own contract gives its reply.
use Rattle.replies.specs.Replies.{Determined, by_value}
use Rattle.meaning.proofs.looking.places_of.Reads as places_of
use Rattle.meaning.proofs.results.result.Reads as result

pub looking : Determined places_of.Post
looking = by_value

pub saying : Determined result.Post
saying = by_value

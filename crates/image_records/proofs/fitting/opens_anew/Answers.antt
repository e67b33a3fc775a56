use Rattle.image_records.specs.Views.{record_read}
use Rattle.image_records.proofs.Fitted.{place_anew, no_place}
use Rattle.image_records.proofs.fitting.opens_anew.Goals as goal

pub returns-in_ok-new-in-Some : goal.returns-in_ok-new-in-Some
returns-in_ok-new-in-Some c rs holds =
    place_anew c.args.places.now.keys c.insert.new.self.keys rs c.in-Some.place (record_read c.args.read.now) c.in_ok-new-in-Some.new holds c.in-Some.ensures c.in_ok-new-in-Some.ensures.added c.in_ok-new-in-Some.ensures.keys

pub returns-in-None : goal.returns-in-None
returns-in-None c rs holds = no_place c.args.places.now.keys rs (record_read c.args.read.now) holds c.in-None.ensures

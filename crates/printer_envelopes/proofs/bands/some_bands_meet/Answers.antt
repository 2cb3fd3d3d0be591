use Rattle.printer_envelopes.proofs.BandLaws.{where_zones_meet}
use Rattle.printer_envelopes.proofs.bands.some_bands_meet.Goals as goal

pub returns-clause-if_zones_meet : goal.returns-clause-if_zones_meet
returns-clause-if_zones_meet c = where_zones_meet

use Rattle.ddcmp_core.proofs.Sound.{sound_new, sound_on, sound_next, sound_started}
use Rattle.ddcmp_core.proofs.Sound.{sound_in_maintenance, sound_halted, sound_accepted}
use Rattle.ddcmp_core.proofs.Sound.{sound_accepted_maintenance, sound_taken, sound_expired}
use Rattle.ddcmp_core.proofs.Sound.{sound_armed, sound_chosen}
use Rattle.ddcmp_core.proofs.laws.stays_sound.Goals as goal

pub returns-clause-new : goal.returns-clause-new
returns-clause-new c = sound_new

pub returns-clause-receives : goal.returns-clause-receives
returns-clause-receives c = sound_on

pub returns-clause-sends : goal.returns-clause-sends
returns-clause-sends c = sound_next

pub returns-clause-starts : goal.returns-clause-starts
returns-clause-starts c = sound_started

pub returns-clause-maintains : goal.returns-clause-maintains
returns-clause-maintains c = sound_in_maintenance

pub returns-clause-halts : goal.returns-clause-halts
returns-clause-halts c = sound_halted

pub returns-clause-accepts : goal.returns-clause-accepts
returns-clause-accepts c = sound_accepted

pub returns-clause-accepts_maintenance : goal.returns-clause-accepts_maintenance
returns-clause-accepts_maintenance c = sound_accepted_maintenance

pub returns-clause-takes : goal.returns-clause-takes
returns-clause-takes c = sound_taken

pub returns-clause-expires : goal.returns-clause-expires
returns-clause-expires c = sound_expired

pub returns-clause-arms : goal.returns-clause-arms
returns-clause-arms c = sound_armed

pub returns-clause-chooses : goal.returns-clause-chooses
returns-clause-chooses c = sound_chosen

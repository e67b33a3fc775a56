-- A frame that waited for the value of a concatenation fits its place as soon as it runs again.
use Rattle.std.proofs.Common.{sym, subst}
use Rattle.machine_sound.specs.Sound.{Sound}
use Rattle.machine_sound.proofs.Woken.{concat_sound}
use Rattle.lua_heap.specs.Plain.{plain}
use Rattle.step_laws.specs.Law.{JoinIsSound}

pub join_is_sound : JoinIsSound
join_is_sound old awake_world k s w o left e = record {
  primitives = s.primitives;
  sound = subst (Sound s.primitives) (sym (w.plain 0)) (concat_sound s.primitives (plain old 0) k.place left s.sound k.is e);
  order = o;
}

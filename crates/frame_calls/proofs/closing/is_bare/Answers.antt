use Rattle.frame_calls.proofs.closing.is_bare.Goals as goal

pub returns : goal.returns
returns c = λ yes. record { none = c.is_bare.ensures.cells yes; pending = c.is_bare.ensures.pending yes }

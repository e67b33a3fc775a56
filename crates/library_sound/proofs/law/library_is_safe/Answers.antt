use Rattle.library_sound.proofs.Library.{library_is_safe, that_loads}
use Rattle.library_sound.proofs.law.library_is_safe.Goals as goal

pub returns-clause-all : goal.returns-clause-all
returns-clause-all c = library_is_safe c.plain_rows_are_functions.ensures c.library_rows_do_not_trap.ensures.rows c.library_rows_do_not_trap.ensures.good c.library_rows_do_not_trap.ensures.all

pub returns-clause-loads : goal.returns-clause-loads
returns-clause-loads c =
    let laws = c.library_rows_do_not_trap.ensures in
    that_loads laws.good laws.loads (library_is_safe c.plain_rows_are_functions.ensures laws.rows laws.good laws.all)

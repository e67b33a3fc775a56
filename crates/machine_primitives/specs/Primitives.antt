-- The rows of all functions of the libraries that are no Lua text.
use Rattle.tree_core.specs.Tree.{Body}
use Rattle.load_rows.specs.Loading.{Builds}
use Rattle.lib_base.specs.Functions.{function_row}
use Rattle.machine_core.specs.MachineStep.{pcall_row, xpcall_row, error_row, resume_row, yield_row, close_row, create_row, status_row, running_row, yieldable_row, print_row, look_row}
use Rattle.machine_core.specs.Moves.{Row}
use Rattle.loaded_code.specs.Laws.{load_by}
use Rattle.machine_primitives.specs.declared.primitives.Called.{Called}
use Rattle.machine_primitives.specs.declared.primitives.Called.TheVariants.{Library, Error, Pcall, Xpcall, Close, Create, IsYieldable, Resume, Running, Status, Yield, Build, Print}

-- which function `load` makes hangs on what sources are built to
abbrev pub row_by : Builds Body → Called → Row
row_by builds (Library function) = look_row (function_row function)
row_by builds Error = error_row
row_by builds Pcall = pcall_row
row_by builds Xpcall = xpcall_row
row_by builds Close = close_row
row_by builds Create = create_row
row_by builds IsYieldable = yieldable_row
row_by builds Resume = resume_row
row_by builds Running = running_row
row_by builds Status = status_row
row_by builds Yield = yield_row
row_by builds Build = load_by builds
row_by builds Print = print_row

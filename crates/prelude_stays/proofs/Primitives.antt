-- The rows of frames that are no Lua frames', and those of primitives.
use Rattle.std.proofs.Common.{ℕ, zero, suc, List, Option, Some, None, false}
use Rattle.std.specs.Prelude.{ℤ, pos, negsuc}
use Rattle.int_core.specs.Limits.{stack_overflow}
use Rattle.int_core.specs.Value.{a_coroutine, Shape, is_object}
use Rattle.code_core.specs.Prototype.{Prototype}
use Rattle.library_rows.specs.Look.{Look}
use Rattle.library_rows.specs.Library.{Primitive, primitive_at, row_of as look_of}
use Rattle.library_rows.specs.Library as library
use Rattle.load_rows.specs.Loading.{Builds, Loaded, wrong, not_loaded, loaded, load_of}
use Rattle.machine_core.specs.Text.{Arg}
use Rattle.machine_core.specs.Moves.{Over, CallShape, is_entered, not_entered, TopShape, lua_top, xpcall_top, handler_top, no_top, ResumeShape, resumed, refused, LookShape, is_given, is_refused, is_raised, Row, traps}
use Rattle.machine_core.specs.FrameRows.{coroutine_fails, raised_to, raised_row, blames, over_frame, refused_under, after_asked, asked_row}
use Rattle.machine_core.specs.MachineStep.{errs_at, level_in, after_entry, after_resume, resumes, after_closing, closes_coroutine, gives_back, after_look, look_row, can_call, sees_status}
use Rattle.machine_core.specs.PrimitiveRows.{own_row, primitive_row, row_numbered, environment_at, loaded_row, load_row}
use Rattle.prelude_stays.specs.Kept.{Home}
use Rattle.prelude_stays.proofs.Rows.{RowKeeps, traps_keep, stop_keeps, act_keeps, cond_keeps, hand_over_keeps, gives_up_keeps, closing_keeps}
use Rattle.prelude_stays.proofs.Texts.{raises_keep}

module _ {y : Home} where
  pub blames_keep : (text : List ℕ) → RowKeeps y (blames text)
  blames_keep text = act_keeps tt (λ n t. stop_keeps)

  -- errors, and what was asked for

  pub coroutine_fails_keep : RowKeeps y coroutine_fails
  coroutine_fails_keep = act_keeps tt (λ e t. act_keeps tt (λ n u. act_keeps tt (λ m w. hand_over_keeps)))

  raised_to_keep : (top : TopShape) (h : ℕ) → RowKeeps y (raised_to top h)
  raised_to_keep xpcall_top h = act_keeps tt (λ e t. act_keeps tt (λ n room. cond_keeps room (act_keeps tt (λ m u. stop_keeps)) gives_up_keeps))
  raised_to_keep (no_top false) h = coroutine_fails_keep
  raised_to_keep _ h = stop_keeps

  pub raised_keeps : RowKeeps y raised_row
  raised_keeps = act_keeps tt (λ h top. raised_to_keep top h)

  refused_keeps : (top : TopShape) (text : List ℕ) → RowKeeps y (refused_under top text)
  refused_keeps lua_top text = raises_keep text
  refused_keeps handler_top text = gives_up_keeps
  refused_keeps _ text = blames_keep text

  after_asked_keeps : (s : CallShape) → RowKeeps y (after_asked s)
  after_asked_keeps (not_entered text) = act_keeps tt (λ n top. refused_keeps top text)
  after_asked_keeps _ = stop_keeps

  pub asked_keeps : RowKeeps y asked_row
  asked_keeps = act_keeps tt (λ f t. act_keeps tt (λ n s. after_asked_keeps s))

  -- primitives

  over_keeps : (over : Over) (r : Row) → RowKeeps y r → RowKeeps y (over_frame over r)
  over_keeps over r h = act_keeps tt (λ n room. cond_keeps room h (blames_keep stack_overflow))

  errs_keep : (e : ℕ) (s : Shape) (level : Option ℤ) → RowKeeps y (errs_at e s level)
  errs_keep e s None = blames_keep _
  errs_keep e s (Some (pos zero)) = act_keeps tt (λ n t. stop_keeps)
  errs_keep e s (Some (pos (suc level))) = act_keeps tt (λ v t. act_keeps tt (λ n u. stop_keeps))
  errs_keep e s (Some (negsuc n)) = act_keeps tt (λ n t. stop_keeps)

  entry_keeps : (s : CallShape) → RowKeeps y (after_entry s)
  entry_keeps (not_entered text) = blames_keep text
  entry_keeps _ = stop_keeps

  pub after_resume_keeps : (s : ResumeShape) → RowKeeps y (after_resume s)
  after_resume_keeps (resumed is_entered) = hand_over_keeps
  after_resume_keeps (refused text) = act_keeps tt (λ n t. hand_over_keeps)
  after_resume_keeps (resumed s) = entry_keeps s

  after_closing_keeps : (s : ResumeShape) → RowKeeps y (after_closing s)
  after_closing_keeps (resumed is_entered) = closing_keeps
  after_closing_keeps (refused text) = blames_keep text
  after_closing_keeps (resumed s) = entry_keeps s

  gives_back_keeps : (xs : List Arg) → RowKeeps y (gives_back xs)
  gives_back_keeps xs = act_keeps tt (λ n t. hand_over_keeps)

  resumes_keep : (s : Shape) (co : ℕ) → RowKeeps y (resumes s co)
  resumes_keep (is_object a_coroutine) co = act_keeps tt (λ n s. after_resume_keeps s)
  resumes_keep _ co = blames_keep _

  closes_keep : (s : Shape) (co : ℕ) → RowKeeps y (closes_coroutine s co)
  closes_keep (is_object a_coroutine) co = act_keeps tt (λ n s. after_closing_keeps s)
  closes_keep _ co = blames_keep _

  status_keeps : (s : Shape) (co : ℕ) → RowKeeps y (sees_status s co)
  status_keeps (is_object a_coroutine) co = act_keeps tt (λ n s. gives_back_keeps _)
  status_keeps _ co = blames_keep _

  after_look_keeps : (v : ℕ) (s : LookShape) → RowKeeps y (after_look v s)
  after_look_keeps v is_given = act_keeps tt (λ n t. hand_over_keeps)
  after_look_keeps v (is_refused text) = blames_keep text
  after_look_keeps v is_raised = act_keeps tt (λ n t. stop_keeps)

  look_keeps : (l : Look) → RowKeeps y (look_row l)
  look_keeps l = act_keeps tt (λ n t. act_keeps tt (λ v s. after_look_keeps v s))

  -- loading

  loaded_keeps : (x : Option Arg) (l : Loaded Prototype) → RowKeeps y (loaded_row x l)
  loaded_keeps x (wrong error) = blames_keep error
  loaded_keeps x (not_loaded why) = gives_back_keeps _
  loaded_keeps x (loaded name p) = act_keeps tt (λ f t. gives_back_keeps _)

  pub load_keeps : (builds : Builds Prototype) → RowKeeps y (load_row builds)
  load_keeps builds = act_keeps tt (λ c t. act_keeps tt (λ count chunk. act_keeps tt (λ n name. act_keeps tt (λ m mode. loaded_keeps (environment_at c count) (load_of builds chunk name mode)))))

  -- all of them

  own_keeps : (build : Row) → RowKeeps y build → (p : Primitive) → RowKeeps y (own_row build p)
  own_keeps build b library.base_error = act_keeps tt (λ e t. act_keeps tt (λ n s. errs_keep e s (level_in s)))
  own_keeps build b library.base_pcall = act_keeps tt (λ f t. over_keeps _ _ (act_keeps tt (λ n u. stop_keeps)))
  own_keeps build b library.base_xpcall = act_keeps tt (λ f t. over_keeps _ _ (act_keeps tt (λ n u. stop_keeps)))
  own_keeps build b library.coroutine_close = act_keeps tt (λ co t. act_keeps tt (λ n s. closes_keep s co))
  own_keeps build b library.coroutine_create = act_keeps tt (λ f t. act_keeps tt (λ n s. cond_keeps (can_call s) (act_keeps tt (λ co u. gives_back_keeps _)) (blames_keep _)))
  own_keeps build b library.coroutine_isyieldable = gives_back_keeps _
  own_keeps build b library.coroutine_resume = act_keeps tt (λ co t. act_keeps tt (λ n s. resumes_keep s co))
  own_keeps build b library.coroutine_running = act_keeps tt (λ co t. gives_back_keeps _)
  own_keeps build b library.coroutine_status = act_keeps tt (λ co t. act_keeps tt (λ n s. status_keeps s co))
  own_keeps build b library.coroutine_yield = act_keeps tt (λ n main. cond_keeps main stop_keeps (act_keeps tt (λ v t. act_keeps tt (λ m u. hand_over_keeps))))
  own_keeps build b library.prelude_build = b
  own_keeps build b library.prelude_out = act_keeps tt (λ v t. act_keeps tt (λ n u. hand_over_keeps))
  own_keeps build b p = traps_keep

  pub numbered_keeps : (build : Row) → RowKeeps y build → (n : ℕ) → RowKeeps y (row_numbered build n)
  numbered_keeps build b n = by (primitive_at n)
    where
      row : (p : Primitive) (o : Option Look) → RowKeeps y (elim o as (λ _. Row) [ Some l ↦ look_row l | None ↦ own_row build p ])
      row p None = own_keeps build b p
      row p (Some l) = look_keeps l

      by : (o : Option Primitive) → RowKeeps y (elim o as (λ _. Row) [ None ↦ traps | Some p ↦ primitive_row build p ])
      by None = traps_keep
      by (Some p) = row p (look_of p)

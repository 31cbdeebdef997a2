-- What the code answers of checks: `Ok` where they were passed, else the refusal.
use Rattle.std.specs.Prelude.{ℕ, ◌≡◌, Err, Ok, Result}
use Rattle.core_read.specs.Taken.{start, Place}
use Rattle.core_read.specs.declared.cursor.Cursor.{Cursor}
use Rattle.core_read.specs.declared.error.Refusal.{Refusal}

-- of a check that a run makes at any cursor: it lets the run through, or stops it with this refusal
abbrev pub Lets : Result (Unit {0}) Refusal → (Place → Place) → Type 0
Lets (Ok u) check = (c : Cursor) → check (Ok c) ≡ Ok c
Lets (Err why) check = (c : Cursor) → check (Ok c) ≡ Err why

-- the same of a check that is made at one cursor
abbrev pub LetsAt : Result (Unit {0}) Refusal → Cursor → (Place → Place) → Type 0
LetsAt (Ok u) c check = check (Ok c) ≡ Ok c
LetsAt (Err why) c check = check (Ok c) ≡ Err why

-- of a whole run of checks that begins at a place: it stands there still, or was stopped with this refusal
abbrev pub Clears : Result (Unit {0}) Refusal → Place → ℕ → Type 0
Clears (Ok u) run place = run ≡ Ok (start place)
Clears (Err why) run place = run ≡ Err why

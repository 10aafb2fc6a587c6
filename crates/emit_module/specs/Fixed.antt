-- The texts that are the same in every module.
use Rattle.std.specs.Prelude.{ℕ, List, ◌++◌, codes}

-- the program's version: the one place where it stands, of which tools read it, too
abbrev pub VERSION : List ℕ
VERSION = codes "0.2.0"

-- after the version in the head
abbrev pub HEAD : List ℕ
HEAD =
    codes ".\n// Change the monitor, and not this file. "
    ++ codes "It wants Rust 1.65 and the edition 2021, or later ones.\n\n"

-- before the functions of a monitor with data
abbrev pub WITH : List ℕ
WITH =
    codes "#[rustfmt::skip]\n"
    ++ codes "#[allow(dead_code, non_snake_case)]\n"
    ++ codes "#[allow(clippy::doc_markdown, clippy::style, clippy::too_many_arguments)]\nimpl<D> "

-- what else is done with the data
abbrev pub DATA : List ℕ
DATA =
    codes "\n    /// The data, which nobody shares now.\n    #[must_use]\n"
    ++ codes "    pub fn get_mut(&mut self) -> &mut D {\n"
    ++ codes "        &mut self.inner.get_mut().unwrap_or_else(PoisonError::into_inner).data\n"
    ++ codes "    }\n\n    /// The data, without the monitor.\n    #[must_use]\n"
    ++ codes "    pub fn into_inner(self) -> D {\n"
    ++ codes "        self.inner.into_inner().unwrap_or_else(PoisonError::into_inner).data\n"
    ++ codes "    }\n\n    /// Whether the mutex is poisoned, as where a function "
    ++ codes "panicked that a call was given.\n    #[must_use]\n"
    ++ codes "    pub fn is_poisoned(&self) -> bool {\n        self.inner.is_poisoned()\n    }\n"

-- the braces of `impl Default`
abbrev pub DEFAULT : List ℕ
DEFAULT = codes " {\n    fn default() -> Self {\n        Self::new()\n    }\n}\n\n"

-- `impl Debug` up to the name that it prints
abbrev pub DEBUG : List ℕ
DEBUG =
    codes "<D> {\n    fn fmt(&self, f: &mut std::fmt::Formatter<'_>) -> std::fmt::Result {\n"
    ++ codes "        let state = match self.inner.try_lock() {\n"
    ++ codes "            Ok(inner) => Some(inner.state),\n"
    ++ codes "            Err(std::sync::TryLockError::Poisoned(inner)) => "
    ++ codes "Some(inner.into_inner().state),\n"
    ++ codes "            Err(std::sync::TryLockError::WouldBlock) => None,\n        };\n"
    ++ codes "        let mut text = f.debug_struct(\""

-- and after it
abbrev pub DEBUG_END : List ℕ
DEBUG_END =
    codes "\");\n        match state {\n"
    ++ codes "            Some(state) => text.field(\"state\", &state),\n"
    ++ codes "            None => text.field(\"state\", &format_args!(\"<locked>\")),\n        };\n"
    ++ codes "        text.finish_non_exhaustive()\n    }\n}\n\n"

-- before the struct of what the mutex guards
abbrev pub INNER : List ℕ
INNER =
    codes "/// What the mutex guards: the fields, how many calls sleep on each condition, and the "
    ++ codes "data.\n#[allow(dead_code)]\n"

-- after it, up to the counts of a copy
abbrev pub COPY : List ℕ
COPY =
    codes "    data: D,\n}\n\nimpl<D> Inner<D> {\n    /// All but the data.\n"
    ++ codes "    #[allow(dead_code)]\n    fn copy(&self) -> Inner {\n        Inner {\n"
    ++ codes "            state: self.state,\n"

-- and after them
abbrev pub COPY_END : List ℕ
COPY_END = codes "            data: (),\n        }\n    }\n}\n\n"

-- before the struct of the state
abbrev pub STATE : List ℕ
STATE =
    codes "/// The fields of the monitor.\n#[derive(Clone, Copy, Debug)]\n#[allow(dead_code)]\n"

-- before the functions of the state
abbrev pub STATE_IMPL : List ℕ
STATE_IMPL =
    codes "// The guards and bodies, with expressions as the monitor has them.\n"
    ++ codes "#[rustfmt::skip]\n"
    ++ codes "#[allow(unused, unused_comparisons, clippy::all, clippy::pedantic)]\n"

-- the function that locks the monitor
abbrev pub LOCK : List ℕ
LOCK =
    codes "\n/// Locks the monitor, poisoned or not: where a function panicked its block "
    ++ codes "changed no field.\n"
    ++ codes "fn lock<D>(inner: &Mutex<Inner<D>>) -> MutexGuard<'_, Inner<D>> {\n"
    ++ codes "    inner.lock().unwrap_or_else(PoisonError::into_inner)\n}\n"

-- the function that waits on a condition, and what notifies where a block ends in a panic
abbrev pub WAIT : List ℕ
WAIT =
    codes "\n/// Gives the lock back and waits on the condition, in one step, "
    ++ codes "and takes the lock again.\n"
    ++ codes "fn wait<'a, D>(condition: &Condvar, inner: MutexGuard<'a, Inner<D>>) "
    ++ codes "-> MutexGuard<'a, Inner<D>> {\n"
    ++ codes "    condition\n        .wait(inner)\n"
    ++ codes "        .unwrap_or_else(PoisonError::into_inner)\n}\n\n"
    ++ codes "/// Wakes one call that waits on the condition, where a block ends that changed "
    ++ codes "nothing.\n#[allow(dead_code)]\nstruct HandOn<'a>(&'a Condvar);\n\n"
    ++ codes "impl Drop for HandOn<'_> {\n    fn drop(&mut self) {\n"
    ++ codes "        self.0.notify_one();\n    }\n}\n"

-- the function that waits on a condition for a time, and the one that says how long
abbrev pub TIMES : List ℕ
TIMES =
    codes "\n/// As `wait`, but no longer than this.\nfn wait_for<'a, D>(\n"
    ++ codes "    condition: &Condvar,\n    inner: MutexGuard<'a, Inner<D>>,\n"
    ++ codes "    left: Duration,\n) -> MutexGuard<'a, Inner<D>> {\n    condition\n"
    ++ codes "        .wait_timeout(inner, left)\n"
    ++ codes "        .unwrap_or_else(PoisonError::into_inner)\n        .0\n}\n\n"
    ++ codes "/// How long it is until then, or `None` where it has come.\n"
    ++ codes "fn time_left(end: Instant) -> Option<Duration> {\n"
    ++ codes "    end.checked_duration_since(Instant::now())\n"
    ++ codes "        .filter(|left| !left.is_zero())\n}\n"

-- the error of calls that may fail, and the test of a number
abbrev pub OVERFLOW : List ℕ
OVERFLOW =
    codes "\n/// A number would have left 64 bits.\n"
    ++ codes "#[derive(Clone, Copy, Debug, PartialEq, Eq)]\npub struct Overflow;\n\n"
    ++ codes "impl std::fmt::Display for Overflow {\n"
    ++ codes "    fn fmt(&self, f: &mut std::fmt::Formatter<'_>) -> std::fmt::Result {\n"
    ++ codes "        f.write_str(\"a number would leave 64 bits\")\n    }\n}\n\n"
    ++ codes "impl std::error::Error for Overflow {}\n\n"
    ++ codes "/// The number, where it has 64 bits.\n"
    ++ codes "fn narrow(number: i128) -> Result<i64, Overflow> {\n"
    ++ codes "    i64::try_from(number).map_err(|_| Overflow)\n}\n"

-- the error of calls that may be refused alone
abbrev pub REFUSED : List ℕ
REFUSED =
    codes "\n/// The guard was false, and the call did not wait, or not any longer. "
    ++ codes "Nothing changed.\n"
    ++ codes "#[derive(Clone, Copy, Debug, PartialEq, Eq)]\npub struct Refused;\n\n"
    ++ codes "impl std::fmt::Display for Refused {\n"
    ++ codes "    fn fmt(&self, f: &mut std::fmt::Formatter<'_>) -> std::fmt::Result {\n"
    ++ codes "        f.write_str(\"the guard is false\")\n    }\n}\n\n"
    ++ codes "impl std::error::Error for Refused {}\n"

-- the error of calls that may be refused, and may overflow
abbrev pub FAILED : List ℕ
FAILED =
    codes "\n/// Why a call that tries, or has a time, has no answer.\n"
    ++ codes "#[derive(Clone, Copy, Debug, PartialEq, Eq)]\npub enum Failed {\n"
    ++ codes "    /// The guard was false, and the call did not wait, or not any longer. "
    ++ codes "Nothing changed.\n"
    ++ codes "    Refused,\n    /// A number would have left 64 bits.\n    Overflow,\n}\n\n"
    ++ codes "impl From<Overflow> for Failed {\n"
    ++ codes "    fn from(_: Overflow) -> Self {\n        Self::Overflow\n    }\n}\n\n"
    ++ codes "impl std::fmt::Display for Failed {\n"
    ++ codes "    fn fmt(&self, f: &mut std::fmt::Formatter<'_>) -> std::fmt::Result {\n"
    ++ codes "        f.write_str(match self {\n"
    ++ codes "            Self::Refused => \"the guard is false\",\n"
    ++ codes "            Self::Overflow => \"a number would leave 64 bits\",\n"
    ++ codes "        })\n    }\n}\n\nimpl std::error::Error for Failed {}\n"

-- a number of which it is known that it has 64 bits
abbrev pub WHOLE : List ℕ
WHOLE =
    codes "\n/// The number, of which it is proved that it has 64 bits.\n"
    ++ codes "#[allow(clippy::cast_possible_truncation)]\n"
    ++ codes "fn whole(number: i128) -> i64 {\n    number as i64\n}\n"

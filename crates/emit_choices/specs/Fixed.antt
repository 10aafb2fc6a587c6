-- The texts of openings that are the same in every module.
use Rattle.std.specs.Prelude.{ℕ, List, ◌++◌, codes}

-- ---- of a monitor without parameters

-- the monitor with no data, and the end of its `impl`
abbrev pub NEW : List ℕ
NEW =
    codes "    /// The monitor at its start.\n    #[must_use]\n"
    ++ codes "    pub const fn new() -> Self {\n        Self::with_data(())\n    }\n}\n\n"

-- the monitor with data, up to the counts at their start
abbrev pub WITH_DATA : List ℕ
WITH_DATA =
    codes "    /// The monitor at its start, with these data.\n    #[must_use]\n"
    ++ codes "    pub const fn with_data(data: D) -> Self {\n        Self {\n"
    ++ codes "            inner: Mutex::new(Inner {\n                state: State::START,\n"

-- ---- of one with parameters

-- before its condition
abbrev pub PANICS : List ℕ
PANICS = codes "    ///\n    /// # Panics\n    ///\n    /// Where `"

-- after it
abbrev pub PANICS_END : List ℕ
PANICS_END = codes "` is false: then a `const` or a `static` does not compile.\n"

-- before the condition that is tested
abbrev pub ADMITS : List ℕ
ADMITS = codes "    /// Whether the monitor may have these parameters: whether `"

-- after it, up to what is taken. A test of the least or the greatest number is always true.
abbrev pub ADMITS_HEAD : List ℕ
ADMITS_HEAD =
    codes "`.\n    #[must_use]\n"
    ++ codes "    #[allow(unused_comparisons, clippy::all, clippy::pedantic)]\n"
    ++ codes "    pub const fn admits("

-- before the docs of parameters
abbrev pub CHOSEN_NEW : List ℕ
CHOSEN_NEW = codes "    /// The monitor at its start.\n"

-- after them, up to what is taken
abbrev pub CHOSEN_NEW_HEAD : List ℕ
CHOSEN_NEW_HEAD =
    codes "    #[must_use]\n    #[track_caller]\n"
    ++ codes "    #[allow(clippy::similar_names, clippy::too_many_arguments)]\n"
    ++ codes "    pub const fn new("

-- after what is given
abbrev pub CHOSEN_NEW_END : List ℕ
CHOSEN_NEW_END = codes ", ())\n    }\n}\n\n"

-- the same, with data
abbrev pub CHOSEN_DATA : List ℕ
CHOSEN_DATA = codes "    /// The monitor at its start, with these data.\n"

abbrev pub CHOSEN_DATA_HEAD : List ℕ
CHOSEN_DATA_HEAD =
    codes "    #[must_use]\n    #[track_caller]\n"
    ++ codes "    #[allow(clippy::similar_names, clippy::too_many_arguments)]\n"
    ++ codes "    pub const fn with_data("

-- after the test, up to what is given
abbrev pub CHOSEN_INNER : List ℕ
CHOSEN_INNER =
    codes "        Self {\n            inner: Mutex::new(Inner {\n"
    ++ codes "                state: State::start("

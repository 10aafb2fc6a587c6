-- Files in memory, as contracts see them.
use Rattle.std.specs.Prelude.{◌⊎◌, ℕ, List, Option, Contains, IsNone, bytes_eq, find, option_map}
use Rattle.base_io.specs.declared.mem_files.MemFile.{MemFile}

pub record FilesInMemory : Type 0 where
  pub files : List MemFile
  -- the numbers of the calls that fail, where the first call has number 1
  pub failing : List ℕ
  -- how many calls were made, and how many of them failed
  pub calls : ℕ
  pub faults : ℕ

-- the bytes of the first file of this name
abbrev pub bytes_named : List MemFile → List ℕ → Option (List ℕ)
bytes_named files name =
    option_map (λ file. file.bytes) (find (λ file. bytes_eq file.name name) files)

-- the call of this number for this name is one that fails
abbrev pub IsFailing : FilesInMemory → ℕ → List ℕ → Type 0
IsFailing memory call name = Contains memory.failing call ⊎ IsNone (bytes_named memory.files name)

-- For private contracts: the texts of parts of certificates.
use Rattle.std.specs.Prelude.{ℕ, List, ◌++◌, codes}
use Rattle.std.specs.List.{flat_map}
use Rattle.logic_cert.specs.declared.cert.Cert.{Cert}
use Rattle.logic_cert.specs.CertText.{cert_text}

-- A certificate after a blank.
abbrev pub later_text : Cert → List ℕ
later_text cert = codes " " ++ cert_text cert

-- Certificates, each after a blank.
abbrev pub later_texts : List Cert → List ℕ
later_texts certs = flat_map later_text certs

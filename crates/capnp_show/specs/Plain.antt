-- Characters that are written as they are both within quotation marks and in a page (src/runs.rt).
use Rattle.std.specs.Prelude.{◌≡◌, ◌≢◌, ℕ, ◌≤◌}

-- The bytes that such characters consist of: no control character of ASCII, and no character that has a
-- letter in JSON or a name in a page. Byte 194 is not one of them: the bytes of U+0080 to U+00BF begin with
-- it, and some of these are control characters.
abbrev pub IsPlainByte : ℕ → Type 0
IsPlainByte byte = (32 ≤ byte) × (byte ≢ 34) × (byte ≢ 38) × (byte ≢ 60) × (byte ≢ 62) × (byte ≢ 92) × (byte ≢ 127) × (byte ≢ 194)

-- A text is read by a beginning of it: what stands behind makes no difference, so a program that reads that much tells what the whole text would.
-- Assumes nothing.
use Prim.Native.Nat.{ℕ}

-- so many bytes decide for either form: 3,001 lines of 16 bytes, the empty line, 1,001 lines of 10, and what shows that another line or the end follows
abbrev pub decisive : ℕ
decisive = 58038

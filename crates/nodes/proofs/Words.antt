-- A node's word taken apart. Assumes nothing.
use mathlib.Core.Path.{◌≡◌}
use Prim.Native.Nat.{ℕ, ◌^◌, ◌<◌}
use native.Mathlib.Omega.{arith}
use Rattle.rules.specs.Constants.{operatorBits, nameBits}
use Rattle.nodes.specs.Words.{kindBits, posBits, widthBits, wordOf, kindIn, lastIn, nameIn, opIn, posIn, widthIn}

pub record Unpacked (kind op name pos last width w : ℕ) : Type 0 where
  pub kind-is : kindIn w ≡ kind
  pub op-is : opIn w ≡ op
  pub name-is : nameIn w ≡ name
  pub pos-is : posIn w ≡ pos
  pub width-is : widthIn w ≡ width
  pub last-is : lastIn w ≡ last

-- what the fields hold fits in them
pub record Fits (kind op name pos width : ℕ) : Type 0 where
  pub kind-fits : kind < 2 ^ kindBits
  pub op-fits : op < 2 ^ operatorBits
  pub name-fits : name < 2 ^ nameBits
  pub pos-fits : pos < 2 ^ posBits
  pub width-fits : width < 2 ^ widthBits

pub unpacked : (kind op name pos last width w : ℕ) → Fits kind op name pos width → w ≡ wordOf kind op name pos last width → Unpacked kind op name pos last width w
unfolding wordOf
unpacked kind op name pos last width w f e = omega arith

pub kind-of : (kind op name pos last width w : ℕ) → kind < 2 ^ kindBits → w ≡ wordOf kind op name pos last width → kindIn w ≡ kind
unfolding wordOf
kind-of kind op name pos last width w h e = omega arith

mod DigitMasks

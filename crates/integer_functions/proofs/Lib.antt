mod DigitSums
